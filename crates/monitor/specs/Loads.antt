-- What loading a roll answers and leaves. Assumes nothing.
use Rattle.std.specs.Prelude.{◌≡◌, ℕ, ◌⊎◌, List, length, take, Ok, Err, Result}
use Rattle.labels.specs.Meaning.{Meaning}
use Rattle.tables.specs.State.{blank}
use Rattle.tables.specs.declared.types.Tables.{Tables}
use Rattle.sound.specs.Sound.{Sound, FirstFailing}
use Rattle.roll.specs.Formed.{Formed, alone}
use Rattle.roll.specs.Rolls.{Says}
use Rattle.saving.specs.declared.saves.NoRoom.{NoRoom}
use Rattle.monitor.specs.declared.faults.RollFault.{RollFault}
use Rattle.monitor.specs.declared.faults.RollFault.TheVariants as of_roll

-- what the bytes tell: sound tables, or a fault
abbrev pub Tells : Meaning → List ℕ → Result Tables RollFault → Type 0
Tells m bytes (Ok t) = Says bytes (Ok t) × Sound m t
Tells m bytes (Err (of_roll.Record f)) = Says bytes (Err f)
Tells m bytes (Err (of_roll.Unsound c n)) = (n ≡ length bytes) × ((u : Tables) × Says bytes (Ok u) × FirstFailing m u c)

-- A roll that says sound tables is taken, and leaves them, with no subject; any other is refused with its fault, and leaves blank tables.
abbrev pub Loads : Meaning → List ℕ → Result (Unit {0}) RollFault → Tables → Type 0
Loads m bytes (Ok x) t = Tells m bytes (Ok t)
Loads m bytes (Err f) t = Tells m bytes (Err f) × (t ≡ blank)

-- Every byte string has one answer, and leaves one state.
abbrev pub OneAnswer : Meaning → Type 0
OneAnswer m = (bytes : List ℕ) (r s : Result (Unit {0}) RollFault) (t u : Tables) → Loads m bytes r t → Loads m bytes s u → (r ≡ s) × (t ≡ u)

-- A guard's tables can be written as a roll, and are blank or sound.
pub record Steady (m : Meaning) (t : Tables) : Type 0 where
  pub formed : Formed t
  pub either : (t ≡ blank) ⊎ Sound m t

-- What was saved into the front of a buffer loads back to the same tables, subjects aside; blank tables are saved as no bytes.
abbrev pub Returns : Meaning → Tables → List ℕ → Result ℕ NoRoom → Type 0
Returns m t buf (Ok n) = ((t ≡ blank) × (n ≡ 0)) ⊎ Loads m (take n buf) (Ok tt) (alone t)
Returns m t buf (Err e) = Unit {0}
