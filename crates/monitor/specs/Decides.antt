-- What a call answers and leaves. Assumes nothing.
use Rattle.std.specs.Prelude.{◌≡◌, Result}
use Rattle.labels.specs.Meaning.{Meaning}
use Rattle.tables.specs.declared.types.Tables.{Tables}
use Rattle.calls.specs.declared.types.Call.{Call}
use Rattle.calls.specs.declared.types.Refusal.{Refusal}
use Rattle.calls.specs.Calls.{Answer}
use Rattle.calls.specs.Effects.{after}
use Rattle.calls.specs.Refusals.{answer_number}
use Rattle.histories.specs.Kept.{Kept}
use Rattle.monitor.specs.declared.guards.Guard.{Guard}

-- The call c on the tables t gets its defined answer and leaves the tables u: those that a granted call sets, the same if it is refused. Kept
-- tables, which are blank or sound, are kept by it.
pub record Decided (m : Meaning) (t : Tables) (c : Call) (r : Result (Unit {0}) Refusal) (u : Tables) : Type 0 where
  pub answer : Answer m t c (answer_number r)
  pub leaves : u ≡ after t c (answer_number r)
  pub kept : Kept m t → Kept m u

-- A guard takes the call c: it is decided by the guard's scheme, which stays, and on the guard's tables.
pub record Takes {S : Type 0} (meaning : S → Meaning) (old : Guard S) (c : Call) (r : Result (Unit {0}) Refusal) (new : Guard S) : Type 0 where
  pub decided : Decided (meaning old.scheme) old.tables c r new.tables
  pub scheme : new.scheme ≡ old.scheme
