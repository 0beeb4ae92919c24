-- Reading the tables. Assumes nothing.
use Rattle.std.specs.Prelude.{ℕ, Bool, false, [], replicate, is_some, None, Option, slice_index_or}
use Rattle.std.specs.Option.{unwrap_or}
use Rattle.tables.specs.declared.sets.Rights.{Rights}
use Rattle.tables.specs.declared.types.Kind.TheVariants.{File}
use Rattle.tables.specs.declared.types.User.{User}
use Rattle.tables.specs.declared.types.Subject.{Subject}
use Rattle.tables.specs.declared.types.Object.{Object}
use Rattle.tables.specs.declared.types.Tables.{Tables}

-- what a slot holds: nothing past the table
abbrev pub user_at : Tables → ℕ → Option User
user_at t u = slice_index_or t.users u None

abbrev pub group_at : Tables → ℕ → Option Rights
group_at t g = slice_index_or t.groups g None

abbrev pub subject_at : Tables → ℕ → Option Subject
subject_at t s = slice_index_or t.subjects s None

abbrev pub object_at : Tables → ℕ → Option Object
object_at t o = slice_index_or t.objects o None

-- what stands for an empty slot: no mark, no group, no right, nothing on the allow list
abbrev pub no_rights : Rights
no_rights = record { 0 = 0 }

abbrev pub blank_user : User
blank_user = record { admin = false; groups = record { 0 = 0 }; allowed = record { 0 = 0 }; floor = 0; top = 0 }

abbrev pub blank_subject : Subject
blank_subject = record { user = 0; label = 0; program = None }

abbrev pub blank_object : Object
blank_object = record { kind = File; parent = 0; owner = 0; label = 0; mixed = false; groups = record { 0 = 0 }; rights = [] }

-- the tables with every slot empty
abbrev pub blank : Tables
blank = record { users = replicate 16 None; groups = replicate 16 None; subjects = replicate 32 None; objects = replicate 64 None }

-- what a slot holds, or else a blank
abbrev pub user : Tables → ℕ → User
user t u = unwrap_or (user_at t u) blank_user

abbrev pub role : Tables → ℕ → Rights
role t g = unwrap_or (group_at t g) no_rights

abbrev pub subject : Tables → ℕ → Subject
subject t s = unwrap_or (subject_at t s) blank_subject

abbrev pub object : Tables → ℕ → Object
object t o = unwrap_or (object_at t o) blank_object

-- is there such a user, group, subject, object?
abbrev pub has_user : Tables → ℕ → Bool
has_user t u = is_some (user_at t u)

abbrev pub has_group : Tables → ℕ → Bool
has_group t g = is_some (group_at t g)

abbrev pub has_subject : Tables → ℕ → Bool
has_subject t s = is_some (subject_at t s)

abbrev pub has_object : Tables → ℕ → Bool
has_object t o = is_some (object_at t o)
