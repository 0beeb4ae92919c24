-- What is so of a guard's tables from call to call. Assumes nothing.
use Rattle.std.specs.Prelude.{◌≡◌, ℕ, true, ◌⊎◌}
use Rattle.labels.specs.Meaning.{Meaning}
use Rattle.tables.specs.declared.types.Tables.{Tables}
use Rattle.tables.specs.State.{blank, user, subject, has_user, has_subject}
use Rattle.sound.specs.Nesting.{InRange}
use Rattle.sound.specs.Sound.{Sound}
use Rattle.roll.specs.Formed.{Formed}

-- every subject acts for a user that exists
abbrev pub Peopled : Tables → Type 0
Peopled t = (s : ℕ) → has_subject t s ≡ true → has_user t (subject t s).user ≡ true

-- every subject's label is in its user's range
abbrev pub Ranged : Meaning → Tables → Type 0
Ranged m t = (s : ℕ) → has_subject t s ≡ true → InRange m (user t (subject t s).user) (subject t s).label

-- what a new guard's tables and those of a load are, and what each call keeps: they can be written as a roll, they are blank or sound, and every subject acts for a user that exists, in
-- its range
pub record Kept (m : Meaning) (t : Tables) : Type 0 where
  pub formed : Formed t
  pub either : (t ≡ blank) ⊎ Sound m t
  pub peopled : Peopled t
  pub ranged : Ranged m t
