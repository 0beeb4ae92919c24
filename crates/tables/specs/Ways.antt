-- When an object lies under another. Assumes nothing.
use Rattle.std.specs.Prelude.{◌≡◌, ℕ, true, ◌⊎◌, List, is_some, None, Option, ◌≢◌, slice_index_or}
use Rattle.std.specs.Option.{unwrap_or}
use Rattle.tables.specs.declared.types.Object.{Object}
use Rattle.tables.specs.declared.types.Tables.{Tables}
use Rattle.tables.specs.State.{blank_object}

-- the parent of object x
abbrev pub parent_of : List (Option Object) → ℕ → ℕ
parent_of os x = (unwrap_or (slice_index_or os x None) blank_object).parent

-- an object lies under p if its parent is p or lies under p; object 0, the root, lies under nothing
pub data Below (os : List (Option Object)) : ℕ → ℕ → Type 0 where
  child : {x p : ℕ} → is_some (slice_index_or os x None) ≡ true → (x ≢ 0) → parent_of os x ≡ p → Below os x p
  deeper : {x q p : ℕ} → is_some (slice_index_or os x None) ≡ true → (x ≢ 0) → parent_of os x ≡ q → Below os q p → Below os x p

-- x lies under p
abbrev pub Under : Tables → ℕ → ℕ → Type 0
Under t x p = Below t.objects x p

-- a is p, or p lies under it
abbrev pub Above : Tables → ℕ → ℕ → Type 0
Above t p a = (a ≡ p) ⊎ Under t p a
