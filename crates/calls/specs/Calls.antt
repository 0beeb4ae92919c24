-- What each call asks, and in which order it is refused. Assumes nothing.
use Rattle.std.specs.Prelude.{◌≡◌, ℕ, zero, suc, ◌<◌, ◌≤◌, true, false, ◌⊎◌, List, [], ◌∷◌, Some, ◌≢◌}
use Rattle.labels.specs.Meaning.{Meaning}
use Rattle.tables.specs.declared.sets.Right.{Right}
use Rattle.tables.specs.declared.sets.Right.TheVariants.{Read as ToRead, Write as ToWrite, Create as ToCreate, Delete as ToDelete, ChangeRights, Execute, WriteAttributes}
use Rattle.tables.specs.Sets.{has}
use Rattle.tables.specs.declared.types.Kind.{Kind}
use Rattle.tables.specs.declared.types.Kind.TheVariants.{Container, File, Program}
use Rattle.tables.specs.declared.types.User.{User}
use Rattle.tables.specs.declared.types.Tables.{Tables}
use Rattle.tables.specs.Rights.{HasRight}
use Rattle.tables.specs.State.{user, subject, object, has_user, has_subject, has_object}
use Rattle.tables.specs.Ways.{Under, Above}
use Rattle.sound.specs.Nesting.{Unmixed, HeldAbove, HoldsUnder, HeldOverAt, InRange}
use Rattle.calls.specs.declared.types.Call.{Call}
use Rattle.calls.specs.declared.types.Call.TheVariants.{Enter, Launch, Leave, Read, Write, Create, Delete, Move, Raise, Mix, Unmix, Rights, Allow, Bar}

-- One thing that a call asks: the number of its refusal, and what must hold, or else it is refused.
pub data Ask : Type 1 where
  must : ℕ → Type 0 → Ask

abbrev pub under : Ask → ℕ
under (must w P) = w

abbrev pub Fine : Ask → Type 0
Fine (must w P) = P

-- the user that a subject acts for
abbrev pub actor : Tables → ℕ → User
actor t s = user t (subject t s).user

-- 1, nobody there: those that are named exist, and a number to be given is in its table
abbrev pub knows_user : Tables → ℕ → Ask
knows_user t u = must 1 (has_user t u ≡ true)

abbrev pub knows_subject : Tables → ℕ → Ask
knows_subject t s = must 1 (has_subject t s ≡ true)

abbrev pub knows_object : Tables → ℕ → Ask
knows_object t o = must 1 (has_object t o ≡ true)

abbrev pub subject_number : ℕ → Ask
subject_number n = must 1 (n < 32)

abbrev pub object_number : ℕ → Ask
object_number n = must 1 (n < 64)

-- 2, seat taken: the number to be given is free
abbrev pub free_subject : Tables → ℕ → Ask
free_subject t n = must 2 (has_subject t n ≡ false)

abbrev pub free_object : Tables → ℕ → Ask
free_object t n = must 2 (has_object t n ≡ false)

-- 3, no label
abbrev pub is_label : Meaning → ℕ → Ask
is_label m l = must 3 (m.label l ≡ true)

-- 4, wrong kind
abbrev pub of_kind : Tables → ℕ → Kind → Ask
of_kind t o k = must 4 ((object t o).kind ≡ k)

-- 5, no right: the subject's user has the right on the object
abbrev pub right : Tables → ℕ → ℕ → Right → Ask
right t s o r = must 5 (HasRight t (subject t s).user (object t o) r)

-- 6, not listed: the subject's user is an administrator; or else the program is on the user's list
abbrev pub administrator : Tables → ℕ → Ask
administrator t s = must 6 ((actor t s).admin ≡ true)

abbrev pub listed : Tables → ℕ → ℕ → Ask
listed t s o = must 6 ((has (actor t s).allowed.0 o ≡ true) ⊎ ((actor t s).admin ≡ true))

-- 7, wrong way: label a flows to label b
abbrev pub flow : Meaning → ℕ → ℕ → Ask
flow m a b = must 7 (m.flow a b ≡ true)

-- 8, out of range: the label is in the user's range
abbrev pub in_range : Meaning → User → ℕ → Ask
in_range m u l = must 8 (InRange m u l)

-- 9, won't nest: each unmixed container that is q or above it holds the label of everything under o
abbrev pub AllHeldAbove : Meaning → Tables → ℕ → ℕ → Type 0
AllHeldAbove m t o q = (x : ℕ) → Under t x o → HeldAbove m t q (object t x).label

-- 10, still rigged: o is no object's parent, and no subject runs from it
abbrev pub Childless : Tables → ℕ → Type 0
Childless t o = (x : ℕ) → has_object t x ≡ true → (object t x).parent ≢ o

abbrev pub Idle : Tables → ℕ → Type 0
Idle t o = (x : ℕ) → has_subject t x ≡ true → (subject t x).program ≢ Some o

-- What a call asks, in the order of the numbers.
abbrev pub asks : Meaning → Tables → Call → List Ask
asks m t (Enter u n l) =
    knows_user t u ∷ subject_number n
    ∷ free_subject t n
    ∷ is_label m l
    ∷ in_range m (user t u) l ∷ []
asks m t (Launch s o n l) =
    knows_subject t s ∷ knows_object t o ∷ subject_number n
    ∷ free_subject t n
    ∷ is_label m l
    ∷ of_kind t o Program
    ∷ right t s o Execute
    ∷ listed t s o
    ∷ flow m (subject t s).label l ∷ flow m (object t o).label l
    ∷ in_range m (actor t s) l ∷ []
asks m t (Leave s) = knows_subject t s ∷ []
asks m t (Read s o) =
    knows_subject t s ∷ knows_object t o
    ∷ right t s o ToRead
    ∷ flow m (object t o).label (subject t s).label ∷ []
asks m t (Write s o) =
    knows_subject t s ∷ knows_object t o
    ∷ of_kind t o File
    ∷ right t s o ToWrite
    ∷ flow m (subject t s).label (object t o).label ∷ []
asks m t (Create s p n k l) =
    knows_subject t s ∷ knows_object t p ∷ object_number n
    ∷ free_object t n
    ∷ is_label m l
    ∷ of_kind t p Container ∷ must 4 (k ≤ 2)
    ∷ right t s p ToCreate
    -- only an administrator makes a program
    ∷ must 6 (k ≡ 2 → (actor t s).admin ≡ true)
    ∷ flow m (subject t s).label l ∷ flow m (subject t s).label (object t p).label
    -- each unmixed container that is p or above it holds the label
    ∷ must 9 (HeldAbove m t p l) ∷ []
asks m t (Delete s o) =
    knows_subject t s ∷ knows_object t o
    ∷ right t s o ToDelete
    ∷ flow m (subject t s).label (object t o).label
    ∷ flow m (subject t s).label (object t (object t o).parent).label
    -- o is not the root, nor a parent, and no subject runs from it
    ∷ must 10 (o ≢ 0)
    ∷ must 10 (Childless t o) ∷ must 10 (Idle t o) ∷ []
asks m t (Move s o q) =
    knows_subject t s ∷ knows_object t o ∷ knows_object t q
    ∷ of_kind t q Container
    ∷ right t s o ToDelete ∷ right t s q ToCreate
    ∷ flow m (subject t s).label (object t o).label
    ∷ flow m (subject t s).label (object t (object t o).parent).label
    ∷ flow m (subject t s).label (object t q).label
    ∷ flow m (object t (object t o).parent).label (object t q).label
    -- q is not o, nor under o, and each unmixed container that is q or above it holds o and what lies under o
    ∷ must 9 (Above t q o → ⊥)
    ∷ must 9 (HeldAbove m t q (object t o).label)
    ∷ must 9 (AllHeldAbove m t o q) ∷ []
asks m t (Raise s o l) =
    knows_subject t s ∷ knows_object t o
    ∷ is_label m l
    ∷ right t s o WriteAttributes
    ∷ flow m (subject t s).label (object t o).label ∷ flow m (object t o).label l
    -- each unmixed container that o lies under holds the label, and if o is one, the label holds what lies under o
    ∷ must 9 (HeldOverAt m t o l)
    ∷ must 9 (Unmixed t o → HoldsUnder m t o l) ∷ []
asks m t (Mix s o) =
    knows_subject t s ∷ knows_object t o
    ∷ of_kind t o Container
    ∷ right t s o WriteAttributes
    ∷ flow m (subject t s).label (object t o).label ∷ []
asks m t (Unmix s o) =
    knows_subject t s ∷ knows_object t o
    ∷ of_kind t o Container
    ∷ right t s o WriteAttributes
    ∷ flow m (subject t s).label (object t o).label
    -- o holds what lies under it
    ∷ must 9 (HoldsUnder m t o (object t o).label) ∷ []
asks m t (Rights s o u mask) =
    knows_subject t s ∷ knows_object t o ∷ knows_user t u
    -- bit 7 of the byte is clear
    ∷ must 4 (mask < 128)
    ∷ right t s o ChangeRights
    ∷ flow m (subject t s).label (object t o).label ∷ []
asks m t (Allow s u o) =
    knows_subject t s ∷ knows_user t u ∷ knows_object t o
    ∷ of_kind t o Program
    ∷ administrator t s ∷ []
asks m t (Bar s u o) =
    knows_subject t s ∷ knows_user t u ∷ knows_object t o
    ∷ of_kind t o Program
    ∷ administrator t s ∷ []

-- all that is asked is fine
abbrev pub AllFine : List Ask → Type 0
AllFine [] = Unit {0}
AllFine (a ∷ rest) = Fine a × AllFine rest

-- what is asked under a number below w is fine
abbrev pub FineBelow : ℕ → List Ask → Type 0
FineBelow w [] = Unit {0}
FineBelow w (a ∷ rest) = (under a < w → Fine a) × FineBelow w rest

-- what is asked under the number w is fine
abbrev pub FineAt : ℕ → List Ask → Type 0
FineAt w [] = Unit {0}
FineAt w (a ∷ rest) = (under a ≡ w → Fine a) × FineAt w rest

-- The answer is 0 if all that is asked is fine, and otherwise the first number under which something is not fine.
abbrev pub Answered : List Ask → ℕ → Type 0
Answered wanted zero = AllFine wanted
Answered wanted (suc w) = FineBelow (suc w) wanted × (FineAt (suc w) wanted → ⊥)

-- A call is granted, and answers 0, if all that it asks is fine; otherwise it is refused with the first number under which something is not fine.
abbrev pub Answer : Meaning → Tables → Call → ℕ → Type 0
Answer m t c a = Answered (asks m t c) a

-- Every call has one answer.
abbrev pub OneAnswer : Meaning → Type 0
OneAnswer m = (t : Tables) (c : Call) (a b : ℕ) → Answer m t c a → Answer m t c b → a ≡ b
