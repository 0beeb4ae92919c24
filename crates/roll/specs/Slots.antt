-- What a record puts into its slot of the tables, and what a slot is written as. Assumes nothing.
use Rattle.std.specs.Prelude.{ℕ, suc, List, [], ◌∷◌, ◌++◌, map, Some, None, Option}
use Rattle.tables.specs.declared.sets.Rights.{Rights}
use Rattle.tables.specs.Kinds.{kind_of, number_of_kind}
use Rattle.tables.specs.declared.types.User.{User}
use Rattle.tables.specs.declared.types.Object.{Object}
use Rattle.tables.specs.declared.types.Tables.{Tables}
use Rattle.records.specs.declared.forms.UserRecord.{UserRecord}
use Rattle.records.specs.declared.forms.GroupRecord.{GroupRecord}
use Rattle.records.specs.declared.forms.ObjectRecord.{ObjectRecord}
use Rattle.records.specs.declared.forms.Record.{Record}
use Rattle.records.specs.declared.forms.Record.TheVariants as record_of

abbrev pub rights_of : ℕ → Rights
rights_of b = record { 0 = b }

abbrev pub rights_byte : Rights → ℕ
rights_byte r = r.0

-- what a record describes
abbrev pub user_of : UserRecord → User
user_of u = record { admin = u.admin; groups = record { 0 = u.groups }; allowed = record { 0 = u.allow }; floor = u.floor; top = u.top }

abbrev pub role_of : GroupRecord → Rights
role_of g = rights_of g.role

abbrev pub object_of : ObjectRecord → Object
object_of o = record {
  kind = kind_of o.kind;
  parent = o.parent;
  owner = o.owner;
  label = o.label;
  mixed = o.mixed;
  groups = record { 0 = o.groups };
  rights = map rights_of o.rights;
}

-- the record that describes it
abbrev pub user_record : ℕ → User → Record
user_record n u = record_of.User (record { number = n; admin = u.admin; groups = u.groups.0; allow = u.allowed.0; floor = u.floor; top = u.top })

abbrev pub group_record : ℕ → Rights → Record
group_record n r = record_of.Group (record { number = n; role = r.0 })

abbrev pub object_record : ℕ → Object → Record
object_record n o = record_of.Object (record {
  number = n;
  parent = o.parent;
  kind = number_of_kind o.kind;
  owner = o.owner;
  label = o.label;
  mixed = o.mixed;
  groups = o.groups.0;
  rights = map rights_byte o.rights;
})

-- the slots that are not empty, from number n on
abbrev pub slots : {A : Type 0} → (ℕ → A → Record) → ℕ → List (Option A) → List Record
slots record_at n [] = []
slots record_at n (None ∷ xs) = slots record_at (suc n) xs
slots record_at n (Some x ∷ xs) = record_at n x ∷ slots record_at (suc n) xs

-- the records of the tables, in the order of a roll; subjects have none
abbrev pub records_of : Tables → List Record
records_of t = slots user_record 0 t.users ++ (slots group_record 0 t.groups ++ slots object_record 0 t.objects)
