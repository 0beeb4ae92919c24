-- What each change of the tables sets: the named field, and nothing else. Assumes nothing.
use Rattle.std.specs.Prelude.{ℕ, Bool, map, None, Option, slice_index_or, slice_set}
use Rattle.std.specs.Option.{option_map}
use Rattle.tables.specs.declared.sets.Rights.{Rights}
use Rattle.tables.specs.declared.types.User.{User}
use Rattle.tables.specs.declared.types.Subject.{Subject}
use Rattle.tables.specs.declared.types.Object.{Object}
use Rattle.tables.specs.declared.types.Tables.{Tables}
use Rattle.tables.specs.Sets.{inserted, without_element}

-- the tables with v in one slot: past the table nothing changes
abbrev pub put_user : Tables → ℕ → Option User → Tables
put_user t u v = record { users = slice_set t.users u v; groups = t.groups; subjects = t.subjects; objects = t.objects }

abbrev pub put_subject : Tables → ℕ → Option Subject → Tables
put_subject t n v = record { users = t.users; groups = t.groups; subjects = slice_set t.subjects n v; objects = t.objects }

abbrev pub put_object : Tables → ℕ → Option Object → Tables
put_object t n v = record { users = t.users; groups = t.groups; subjects = t.subjects; objects = slice_set t.objects n v }

-- the tables with one user or object changed by f: an empty slot stays empty
abbrev pub at_user : Tables → ℕ → (User → User) → Tables
at_user t u f = put_user t u (option_map f (slice_index_or t.users u None))

abbrev pub at_object : Tables → ℕ → (Object → Object) → Tables
at_object t o f = put_object t o (option_map f (slice_index_or t.objects o None))

-- an object with another parent, label, mixed mark, or set of rights for user u
abbrev pub moved : ℕ → Object → Object
moved p x = record { kind = x.kind; parent = p; owner = x.owner; label = x.label; mixed = x.mixed; groups = x.groups; rights = x.rights }

abbrev pub relabelled : ℕ → Object → Object
relabelled l x = record { kind = x.kind; parent = x.parent; owner = x.owner; label = l; mixed = x.mixed; groups = x.groups; rights = x.rights }

abbrev pub remixed : Bool → Object → Object
remixed b x = record { kind = x.kind; parent = x.parent; owner = x.owner; label = x.label; mixed = b; groups = x.groups; rights = x.rights }

abbrev pub regranted : ℕ → Rights → Object → Object
regranted u rs x = record { kind = x.kind; parent = x.parent; owner = x.owner; label = x.label; mixed = x.mixed; groups = x.groups; rights = slice_set x.rights u rs }

-- a user with object o on the allow list, and without it
abbrev pub listing : ℕ → User → User
listing o u = record { admin = u.admin; groups = u.groups; allowed = record { 0 = inserted u.allowed.0 o }; floor = u.floor; top = u.top }

abbrev pub unlisting : ℕ → User → User
unlisting o u = record { admin = u.admin; groups = u.groups; allowed = record { 0 = without_element u.allowed.0 o }; floor = u.floor; top = u.top }

-- the tables with object o off every allow list
abbrev pub unlisted_all : Tables → ℕ → Tables
unlisted_all t o = record { users = map (option_map (unlisting o)) t.users; groups = t.groups; subjects = t.subjects; objects = t.objects }

-- the tables without object o, in its slot and on the allow lists
abbrev pub without_object : Tables → ℕ → Tables
without_object t o = put_object (unlisted_all t o) o None
