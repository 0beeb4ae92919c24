-- Every run from what a load leaves is secure, and how runs and whole tables go on from call to call. Assumes nothing.
use Rattle.std.proofs.Common.{◌≡◌, ℕ, zero, suc, true, get_or, replicate, is_some, None, Option, refl}
use Rattle.std.proofs.lemmas.Bool.{false≢true}
use Rattle.labels.specs.Meaning.{Meaning, Lawful}
use Rattle.tables.specs.declared.types.User.{User}
use Rattle.tables.specs.declared.types.Subject.{Subject}
use Rattle.tables.specs.declared.types.Tables.{Tables}
use Rattle.tables.specs.State.{blank, has_user, has_subject}
use Rattle.sound.specs.declared.clauses.Clause.TheVariants.{Nesting}
use Rattle.calls.specs.declared.types.Call.{Call}
use Rattle.calls.specs.declared.types.Call.TheVariants.{Enter, Launch, Leave, Read, Write, Create, Delete, Move, Raise, Mix, Unmix, Rights, Allow, Bar}
use Rattle.calls.specs.Calls.{asks, AllFine, Answer}
use Rattle.calls.specs.Effects.{after}
use Rattle.histories.proofs.Wholes.{Loaded}
use Rattle.histories.specs.Promises.{AllSecure}
use Rattle.histories.proofs.Chains.{flows_on, whole_at}
use Rattle.histories.proofs.Launches.{launches_listed, programs_unwritten}
pub use Rattle.histories.proofs.Keeps.{whole_loaded, whole_after}
pub use Rattle.histories.proofs.Made.{run_empty, run_snoc}

-- no run from what a load leaves breaks a promise
pub secure : (m : Meaning) → Lawful m → (roll : Tables) → Loaded m roll → AllSecure m roll
secure m laws roll loaded calls answers r = record {
  flows = flows_on r laws loaded;
  keeps = λ k h. let w = whole_at r laws loaded k h in (w.sound Nesting, w.peopled, w.ranged);
  listed = launches_listed r laws loaded;
  unwritten = programs_unwritten r;
}

-- nothing is in a table whose slots are all empty
none_at : (A : Type 0) (n i : ℕ) → is_some (get_or {A = Option A} (replicate n None) i None) ≡ true → ⊥
none_at A zero i h = false≢true h
none_at A (suc n) zero h = false≢true h
none_at A (suc n) (suc i) h = none_at A n i h

no_user : (u : ℕ) → has_user blank u ≡ true → ⊥
no_user u h = none_at User 16 u h

no_subject : (s : ℕ) → has_subject blank s ≡ true → ⊥
no_subject s h = none_at Subject 32 s h

-- every call asks first that somebody is there
refused : (m : Meaning) (c : Call) → AllFine (asks m blank c) → ⊥
refused m (Enter u n l) fine = no_user u fine.0
refused m (Launch s o n l) fine = no_subject s fine.0
refused m (Leave s) fine = no_subject s fine.0
refused m (Read s o) fine = no_subject s fine.0
refused m (Write s o) fine = no_subject s fine.0
refused m (Create s p n kind l) fine = no_subject s fine.0
refused m (Delete s o) fine = no_subject s fine.0
refused m (Move s o q) fine = no_subject s fine.0
refused m (Raise s o l) fine = no_subject s fine.0
refused m (Mix s o) fine = no_subject s fine.0
refused m (Unmix s o) fine = no_subject s fine.0
refused m (Rights s o u mask) fine = no_subject s fine.0
refused m (Allow s u o) fine = no_subject s fine.0
refused m (Bar s u o) fine = no_subject s fine.0

-- so blank tables stay blank
pub blank_refused : (m : Meaning) (c : Call) (a : ℕ) → Answer m blank c a → after blank c a ≡ blank
blank_refused m c zero fine = absurd (refused m c fine)
blank_refused m c (suc w) ans = refl
