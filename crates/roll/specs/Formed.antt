-- Tables that a roll can say. Assumes nothing.
use Rattle.std.specs.Prelude.{◌≡◌, ℕ, length, replicate, Some, None}
use Rattle.tables.specs.State.{user_at, group_at, object_at}
use Rattle.tables.specs.declared.sets.Rights.{Rights}
use Rattle.tables.specs.declared.types.User.{User}
use Rattle.tables.specs.declared.types.Object.{Object}
use Rattle.tables.specs.declared.types.Tables.{Tables}
use Rattle.records.specs.Records.{InForm}
use Rattle.roll.specs.Slots.{user_record, group_record, object_record}

-- the sizes that the types fix
pub record Sized (t : Tables) : Type 0 where
  pub users : length t.users ≡ 16
  pub groups : length t.groups ≡ 16
  pub subjects : length t.subjects ≡ 32
  pub objects : length t.objects ≡ 64

-- what each slot holds has a record in form: numbers fit their fields, and rights have bit 7 clear
pub record Formed (t : Tables) : Type 0 where
  pub sized : Sized t
  pub users : (n : ℕ) (u : User) → user_at t n ≡ Some u → InForm (user_record n u)
  pub groups : (n : ℕ) (r : Rights) → group_at t n ≡ Some r → InForm (group_record n r)
  pub objects : (n : ℕ) (o : Object) → object_at t n ≡ Some o → InForm (object_record n o)

-- the tables with no subject
abbrev pub alone : Tables → Tables
alone t = record { users = t.users; groups = t.groups; subjects = replicate 32 None; objects = t.objects }
