-- The marked examples of labels and of rolls: one list. Assumes nothing.
use Rattle.std.specs.Prelude.{◌≡◌, ℕ, List, [], ◌∷◌, ◌++◌, map, take, Err}
use Rattle.std.specs.List.{AllByRecursion}
use Rattle.labels.specs.House.{house}
use Rattle.labels.specs.Marked.{Row, answer}
use Rattle.labels.specs.Marked as labels
use Rattle.records.specs.declared.forms.RecordFault.TheVariants as of_record
use Rattle.sound.specs.declared.clauses.Clause.TheVariants.{Tree}
use Rattle.monitor.specs.declared.faults.RollFault.{RollFault}
use Rattle.monitor.specs.declared.faults.RollFault.TheVariants as of_roll
use Rattle.monitor.specs.Loads.{Tells}

pub data Example : Type 0 where
  -- a question about labels, with its answer
  labelled : Row → Example
  -- a roll that is refused under the house label, with its fault
  refused : List ℕ → RollFault → Example

abbrev pub Stands : Example → Type 0
Stands (labelled r) = answer r.asked ≡ r.told
Stands (refused bytes f) = Tells house bytes (Err f)

-- a roll of one administrator, the root and a file under it
abbrev pub sample : List ℕ
sample =
    25 ∷ 1 ∷ 0 ∷ 0 ∷ 0 ∷ 0 ∷ 0 ∷ 2 ∷ 0 ∷ 0 ∷ 0 ∷ 2 ∷ 0 ∷ 0 ∷ 0 ∷ 0 ∷ 0 ∷ 0 ∷ 0
    ∷ 24 ∷ 3 ∷ 0 ∷ 0 ∷ 0 ∷ 0 ∷ 0 ∷ 2 ∷ 0 ∷ 0 ∷ 0
    ∷ 10 ∷ 3 ∷ 1 ∷ 1 ∷ 1 ∷ 0 ∷ 0 ∷ 0 ∷ 1 ∷ 0 ∷ 0 ∷ 0 ∷ []

abbrev pub marked : List Example
marked =
    map labelled labels.marked
    -- no record at all: there is no root, which the third clause asks for
    ++ (refused [] (of_roll.Unsound Tree 0)
    -- the sample without its last byte: it is cut short in the record that begins at byte 30
    ∷ refused (take 41 sample) (of_roll.Record (of_record.Bytes (record { first = 30 })))
    ∷ [])

abbrev pub MarkedStand : Type 0
MarkedStand = AllByRecursion Stands marked
