-- Marked examples: each row is a question with the answer that it must have. Assumes nothing.
use Rattle.std.specs.Prelude.{◌≡◌, ℕ, Bool, true, false, List, [], ◌∷◌, ◌==◌}
use Rattle.std.specs.List.{AllByRecursion}
use Rattle.labels.specs.Meaning.{Meaning}
use Rattle.labels.specs.House.{house, numbered}
use Rattle.labels.specs.Old.{old}

pub data Question : Type 0 where
  same : ℕ → ℕ → Question
  label : Meaning → ℕ → Question
  flow : Meaning → ℕ → ℕ → Question
  hold : Meaning → ℕ → ℕ → Question

-- what the definitions answer
abbrev pub answer : Question → Bool
answer (same a b) = a == b
answer (label m a) = m.label a
answer (flow m a b) = m.flow a b
answer (hold m p c) = m.hold p c

pub record Row : Type 0 where
  pub asked : Question
  pub told : Bool

abbrev yes : Question → Row
yes q = record { asked = q; told = true }

abbrev no : Question → Row
no q = record { asked = q; told = false }

abbrev pub marked : List Row
marked =
    -- the number of a label with all four parts
    yes (same (numbered 1 3 2 1) 281483566841857)
    -- more secret and less trusted is the way of the flow
    ∷ yes (flow house (numbered 0 0 2 0) (numbered 1 0 1 0))
    ∷ no (flow house (numbered 1 0 1 0) (numbered 0 0 2 0))
    -- a trust category may be lost and not gained
    ∷ yes (flow house (numbered 0 0 2 3) (numbered 0 0 2 1))
    ∷ no (flow house (numbered 0 0 2 1) (numbered 0 0 2 3))
    -- a container holds what is below it in all four parts
    ∷ yes (hold house (numbered 2 3 2 0) (numbered 1 1 1 0))
    -- and nothing that is more trusted than it
    ∷ no (hold house (numbered 2 3 1 0) (numbered 0 0 2 0))
    -- eight categories and three levels
    ∷ yes (label house (numbered 0 255 0 0))
    ∷ no (label house (numbered 0 256 0 0))
    ∷ no (label house (numbered 3 0 0 0))
    -- the old label flows from the trusted to the less trusted, and has five levels
    ∷ yes (flow old 3 1)
    ∷ no (flow old 1 3)
    ∷ no (label old 5)
    ∷ []

-- every row has the answer that the definitions give
abbrev pub MarkedStand : Type 0
MarkedStand = AllByRecursion (λ (r : Row). answer r.asked ≡ r.told) marked
