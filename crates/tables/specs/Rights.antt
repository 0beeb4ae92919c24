-- When a user has a right on an object. Assumes nothing.
use Rattle.std.specs.Prelude.{◌≡◌, ℕ, true, List, None, Option, slice_index_or}
use Rattle.std.specs.Option.{unwrap_or}
use Rattle.tables.specs.declared.sets.Right.{Right}
use Rattle.tables.specs.declared.sets.Rights.{Rights}
use Rattle.tables.specs.declared.types.Object.{Object}
use Rattle.tables.specs.declared.types.Tables.{Tables}
use Rattle.tables.specs.Sets.{has, bit_of}
use Rattle.tables.specs.State.{user, no_rights}

-- the right is in the set
abbrev pub Gives : Rights → Right → Type 0
Gives rs r = has rs.0 (bit_of r) ≡ true

-- some group of both sets has the right in its role
abbrev pub Shared : List (Option Rights) → ℕ → ℕ → Right → Type 0
Shared roles mine its r = (g : ℕ) × (has mine g ≡ true) × (has its g ≡ true) × Gives (unwrap_or (slice_index_or roles g None) no_rights) r

-- a user has a right on an object if it owns it, or is an administrator, or has the right in the object's set for it, or some group
-- of both user and object has it in its role
pub data HasRight (t : Tables) (u : ℕ) (o : Object) (r : Right) : Type 0 where
  owner : o.owner ≡ u → HasRight t u o r
  administrator : (user t u).admin ≡ true → HasRight t u o r
  entry : Gives (slice_index_or o.rights u no_rights) r → HasRight t u o r
  group : Shared t.groups (user t u).groups.0 o.groups.0 r → HasRight t u o r
