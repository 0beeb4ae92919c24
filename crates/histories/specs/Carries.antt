-- The parties of a call, and what a granted call carries between them. Assumes nothing.
use Rattle.std.specs.Prelude.{◌≡◌, ℕ, Bool, ◌⊎◌, List, [], ◌∷◌}
use Rattle.tables.specs.declared.types.Tables.{Tables}
use Rattle.tables.specs.State.{subject, object, has_subject, has_object}
use Rattle.calls.specs.declared.types.Call.{Call}
use Rattle.calls.specs.declared.types.Call.TheVariants.{Enter, Launch, Leave, Read, Write, Create, Delete, Move, Raise, Mix, Unmix, Rights, Allow, Bar}

-- a party is a subject or an object
pub data Sort : Type 0 where
  a_subject an_object : Sort

-- is there one of this sort and number?
abbrev pub present : Tables → Sort → ℕ → Bool
present t a_subject n = has_subject t n
present t an_object n = has_object t n

-- its label
abbrev pub label_of : Tables → Sort → ℕ → ℕ
label_of t a_subject n = (subject t n).label
label_of t an_object n = (object t n).label

-- where a flow leads: to a party that stands, or to the one that the call makes, with its number and label
pub data Goal : Type 0 where
  standing : Sort → ℕ → Goal
  made : Sort → ℕ → ℕ → Goal

-- a flow from a party, by its sort and number, to a goal
pub data Flow : Type 0 where
  flows : Sort → ℕ → Goal → Flow

-- What a granted call carries: along each flow that it asks, from the first party to the second. Only a raise's flow to its new label carries nothing.
abbrev pub carries : Tables → Call → List Flow
carries t (Enter u n l) = []
carries t (Launch s o n l) = flows a_subject s (made a_subject n l) ∷ flows an_object o (made a_subject n l) ∷ []
carries t (Leave s) = []
carries t (Read s o) = flows an_object o (standing a_subject s) ∷ []
carries t (Write s o) = flows a_subject s (standing an_object o) ∷ []
carries t (Create s p n k l) = flows a_subject s (made an_object n l) ∷ flows a_subject s (standing an_object p) ∷ []
carries t (Delete s o) = flows a_subject s (standing an_object o) ∷ flows a_subject s (standing an_object (object t o).parent) ∷ []
carries t (Move s o q) =
    flows a_subject s (standing an_object o) ∷ flows a_subject s (standing an_object (object t o).parent)
    ∷ flows a_subject s (standing an_object q) ∷ flows an_object (object t o).parent (standing an_object q) ∷ []
carries t (Raise s o l) = flows a_subject s (standing an_object o) ∷ []
carries t (Mix s o) = flows a_subject s (standing an_object o) ∷ []
carries t (Unmix s o) = flows a_subject s (standing an_object o) ∷ []
carries t (Rights s o u mask) = flows a_subject s (standing an_object o) ∷ []
carries t (Allow s u o) = []
carries t (Bar s u o) = []

-- a flow from the party k n to the goal g is among these
abbrev pub Among : List Flow → Sort → ℕ → Goal → Type 0
Among [] k n g = ⊥
Among (flows k' n' g' ∷ rest) k n g = ((k ≡ k') × (n ≡ n') × (g ≡ g')) ⊎ Among rest k n g

-- which party a granted call makes: enter and launch a subject, create an object
abbrev pub Makes : Call → Sort → ℕ → Type 0
Makes (Enter u n l) k x = (k ≡ a_subject) × (x ≡ n)
Makes (Launch s o n l) k x = (k ≡ a_subject) × (x ≡ n)
Makes (Leave s) k x = ⊥
Makes (Read s o) k x = ⊥
Makes (Write s o) k x = ⊥
Makes (Create s p n kind l) k x = (k ≡ an_object) × (x ≡ n)
Makes (Delete s o) k x = ⊥
Makes (Move s o q) k x = ⊥
Makes (Raise s o l) k x = ⊥
Makes (Mix s o) k x = ⊥
Makes (Unmix s o) k x = ⊥
Makes (Rights s o u mask) k x = ⊥
Makes (Allow s u o) k x = ⊥
Makes (Bar s u o) k x = ⊥

-- which party a granted call ends: leave a subject, delete an object
abbrev pub Ends : Call → Sort → ℕ → Type 0
Ends (Enter u n l) k x = ⊥
Ends (Launch s o n l) k x = ⊥
Ends (Leave s) k x = (k ≡ a_subject) × (x ≡ s)
Ends (Read s o) k x = ⊥
Ends (Write s o) k x = ⊥
Ends (Create s p n kind l) k x = ⊥
Ends (Delete s o) k x = (k ≡ an_object) × (x ≡ o)
Ends (Move s o q) k x = ⊥
Ends (Raise s o l) k x = ⊥
Ends (Mix s o) k x = ⊥
Ends (Unmix s o) k x = ⊥
Ends (Rights s o u mask) k x = ⊥
Ends (Allow s u o) k x = ⊥
Ends (Bar s u o) k x = ⊥
