-- What holds of the tables that a load leaves, and of those that calls leave from then on. Assumes nothing.
use Rattle.std.proofs.Common.{◌≡◌, ℕ, false}
use Rattle.labels.specs.Meaning.{Meaning}
use Rattle.tables.specs.declared.types.Tables.{Tables}
use Rattle.roll.specs.Formed.{Sized}
use Rattle.tables.specs.State.{has_subject}
use Rattle.sound.specs.Sound.{Sound}
use Rattle.histories.specs.Kept.{Peopled, Ranged}

-- what a load leaves: sound tables without subjects
pub record Loaded (m : Meaning) (t : Tables) : Type 0 where
  pub sized : Sized t
  pub sound : Sound m t
  pub alone : (s : ℕ) → has_subject t s ≡ false

-- what is so from then on: the tables are sound, and every subject acts for a user that exists, in its range
pub record Whole (m : Meaning) (t : Tables) : Type 0 where
  pub sized : Sized t
  pub sound : Sound m t
  pub peopled : Peopled t
  pub ranged : Ranged m t
