-- What a roll says, and what is wrong with one. Assumes nothing.
use Rattle.std.specs.Prelude.{◌≡◌, ℕ, ◌+◌, ◌<◌, ◌≤◌, List, [], ◌∷◌, ◌++◌, length, Some, Ok, Err, Result, slice_set}
use Rattle.std.specs.List.{flat_map, AllByRecursion}
use Rattle.tables.specs.State.{blank}
use Rattle.tables.specs.declared.types.Tables.{Tables}
use Rattle.records.specs.declared.forms.Record.{Record}
use Rattle.records.specs.declared.forms.Record.TheVariants as record_of
use Rattle.records.specs.declared.forms.RecordFault.{RecordFault}
use Rattle.records.specs.declared.forms.RecordFault.TheVariants as record_fault
use Rattle.records.specs.Records.{encode, InForm, Faulty}
use Rattle.roll.specs.Slots.{user_of, role_of, object_of}

-- the place of a record in the order of kind, then number
abbrev pub rank_of : Record → ℕ
rank_of (record_of.User u) = 256 + u.number
rank_of (record_of.Group g) = 512 + g.number
rank_of (record_of.Object o) = 768 + o.number

-- the records ascend strictly, from above m
abbrev pub Rising : ℕ → List Record → Type 0
Rising m [] = Unit {0}
Rising m (x ∷ xs) = (m < rank_of x) × Rising (rank_of x) xs

-- the place of the last record, or m where there is none
abbrev pub last_of : ℕ → List Record → ℕ
last_of m [] = m
last_of m (x ∷ xs) = last_of (rank_of x) xs

-- records in form that ascend, as a roll has them
pub record Roll (rs : List Record) : Type 0 where
  pub forms : AllByRecursion InForm rs
  pub rises : Rising 0 rs

-- what a record says goes into its slot
abbrev pub put_in : Tables → Record → Tables
put_in t (record_of.User u) = record { users = slice_set t.users u.number (Some (user_of u)); groups = t.groups; subjects = t.subjects; objects = t.objects }
put_in t (record_of.Group g) = record { users = t.users; groups = slice_set t.groups g.number (Some (role_of g)); subjects = t.subjects; objects = t.objects }
put_in t (record_of.Object o) = record { users = t.users; groups = t.groups; subjects = t.subjects; objects = slice_set t.objects o.number (Some (object_of o)) }

-- the tables that records make, one after another
abbrev pub tables_from : Tables → List Record → Tables
tables_from t [] = t
tables_from t (x ∷ xs) = tables_from (put_in t x) xs

-- the first bad record stands behind the good records rs, at the byte place p: the bytes end inside it, it is not in form, or it is out of order
abbrev pub Next : List Record → ℕ → List ℕ → RecordFault → Type 0
Next rs p rest (record_fault.Bytes e) = Faulty p rest (record_fault.Bytes e)
Next rs p rest (record_fault.Form q) = Faulty p rest (record_fault.Form q)
Next rs p rest (record_fault.Order q) = (q ≡ p) × ((x : Record) × (more : List ℕ) × InForm x × (rest ≡ encode x ++ more) × (rank_of x ≤ last_of 0 rs))

-- The bytes are those of a run of records in form that ascend, and the tables are theirs; or behind such a run stands the first bad record.
abbrev pub Says : List ℕ → Result Tables RecordFault → Type 0
Says bytes (Ok t) = (rs : List Record) × Roll rs × (bytes ≡ flat_map encode rs) × (t ≡ tables_from blank rs)
Says bytes (Err f) = (rs : List Record) × (rest : List ℕ) × Roll rs × (bytes ≡ flat_map encode rs ++ rest) × (0 < length rest) × Next rs (length (flat_map encode rs)) rest f

-- Every byte string says one thing.
abbrev pub OneSaying : Type 0
OneSaying = (bytes : List ℕ) (r s : Result Tables RecordFault) → Says bytes r → Says bytes s → r ≡ s
