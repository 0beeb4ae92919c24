-- When the tables are sound, clause by clause, and which clause fails first. Assumes nothing.
use Rattle.std.specs.Prelude.{◌≡◌, ℕ, ◌<◌, true, is_some, ◌⊎◌, List, Option, None, ◌≢◌, slice_index_or}
use Rattle.labels.specs.Meaning.{Meaning}
use Rattle.tables.specs.declared.sets.Rights.{Rights}
use Rattle.tables.specs.declared.types.Kind.{Kind}
use Rattle.tables.specs.declared.types.Kind.TheVariants.{Container, Program}
use Rattle.tables.specs.declared.types.User.{User}
use Rattle.tables.specs.declared.types.Object.{Object}
use Rattle.tables.specs.declared.types.Tables.{Tables}
use Rattle.tables.specs.Sets.{has}
use Rattle.tables.specs.State.{user, subject, object, has_user, has_group, has_subject, has_object, no_rights}
use Rattle.tables.specs.Ways.{Under}
use Rattle.sound.specs.Nesting.{Nested}
use Rattle.sound.specs.declared.clauses.Clause.{Clause}
use Rattle.sound.specs.declared.clauses.Clause.TheVariants.{Groups, Labels, Tree, Owners, Lists, Administrator, Nesting, Mixed}

-- every group of a set exists
abbrev pub GroupsThere : Tables → ℕ → Type 0
GroupsThere t set = (g : ℕ) → has set g ≡ true → has_group t g ≡ true

-- (a) the groups that users and objects name exist
pub record Grouped (t : Tables) : Type 0 where
  pub users : (u : ℕ) → has_user t u ≡ true → GroupsThere t (user t u).groups.0
  pub objects : (o : ℕ) → has_object t o ≡ true → GroupsThere t (object t o).groups.0

-- a user's floor and top are labels, and the floor flows to the top
abbrev pub RangeStands : Meaning → User → Type 0
RangeStands m x = (m.label x.floor ≡ true) × (m.label x.top ≡ true) × (m.flow x.floor x.top ≡ true)

-- (b) all labels are labels of the scheme, and each floor flows to its top
pub record Labelled (m : Meaning) (t : Tables) : Type 0 where
  pub users : (u : ℕ) → has_user t u ≡ true → RangeStands m (user t u)
  pub subjects : (s : ℕ) → has_subject t s ≡ true → m.label (subject t s).label ≡ true
  pub objects : (o : ℕ) → has_object t o ≡ true → m.label (object t o).label ≡ true

-- o is an object of a kind
abbrev pub IsKind : Tables → Kind → ℕ → Type 0
IsKind t kind o = (has_object t o ≡ true) × ((object t o).kind ≡ kind)

-- the parent of o is a container, and parents lead from o to 0
pub record Placed (t : Tables) (o : ℕ) : Type 0 where
  pub parent : IsKind t Container (object t o).parent
  pub way : (o ≡ 0) ⊎ Under t o 0

-- (c) object 0 is a container and its own parent, and every object has its place under it
pub record Rooted (t : Tables) : Type 0 where
  pub root : IsKind t Container 0
  pub own : (object t 0).parent ≡ 0
  pub placed : (o : ℕ) → has_object t o ≡ true → Placed t o

-- every user with some right in these sets, one for each user, is among these users
abbrev pub HoldersAmong : List (Option User) → List Rights → Type 0
HoldersAmong users sets = (u : ℕ) → ((slice_index_or sets u no_rights).0 ≢ 0) → is_some (slice_index_or users u None) ≡ true

-- every user with some right in these sets, one for each user, exists
abbrev pub HoldersThere : Tables → List Rights → Type 0
HoldersThere t sets = HoldersAmong t.users sets

-- (d) owners, and users with rights on an object, exist
pub record Owned (t : Tables) : Type 0 where
  pub owners : (o : ℕ) → has_object t o ≡ true → has_user t (object t o).owner ≡ true
  pub holders : (o : ℕ) → has_object t o ≡ true → HoldersThere t (object t o).rights

-- every object of a set is a program
abbrev pub ProgramsOnly : Tables → ℕ → Type 0
ProgramsOnly t set = (o : ℕ) → has set o ≡ true → IsKind t Program o

-- (e) allow lists name programs
abbrev pub Listed : Tables → Type 0
Listed t = (u : ℕ) → has_user t u ≡ true → ProgramsOnly t (user t u).allowed.0

-- (f) some user is an administrator
abbrev pub Administered : Tables → Type 0
Administered t = (u : ℕ) × (has_user t u ≡ true) × ((user t u).admin ≡ true)

-- an object that is mixed is a container
abbrev pub MixedRight : Object → Type 0
MixedRight x = x.mixed ≡ true → x.kind ≡ Container

-- (h) only containers are mixed
abbrev pub MixedApart : Tables → Type 0
MixedApart t = (o : ℕ) → has_object t o ≡ true → MixedRight (object t o)

-- what each clause says; (g) is Nested
abbrev pub Holding : Clause → Meaning → Tables → Type 0
Holding Groups m t = Grouped t
Holding Labels m t = Labelled m t
Holding Tree m t = Rooted t
Holding Owners m t = Owned t
Holding Lists m t = Listed t
Holding Administrator m t = Administered t
Holding Nesting m t = Nested m t
Holding Mixed m t = MixedApart t

-- the place of a clause: (a) is 1, and (h) is 8
abbrev pub number : Clause → ℕ
number Groups = 1
number Labels = 2
number Tree = 3
number Owners = 4
number Lists = 5
number Administrator = 6
number Nesting = 7
number Mixed = 8

-- the tables are sound under a scheme: every clause holds
abbrev pub Sound : Meaning → Tables → Type 0
Sound m t = (c : Clause) → Holding c m t

-- c is the first clause that fails: those before it hold, and it does not
pub record FirstFailing (m : Meaning) (t : Tables) (c : Clause) : Type 0 where
  pub before : (d : Clause) → number d < number c → Holding d m t
  pub fails : Holding c m t → ⊥
