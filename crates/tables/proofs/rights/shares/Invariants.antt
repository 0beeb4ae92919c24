use Rattle.std.proofs.Common.{◌≡◌, ℕ, true, ◌⊎◌, List, None, Option, get_or, unwrap_or}
use Rattle.tables.specs.declared.sets.Right.{Right}
use Rattle.tables.specs.declared.sets.Rights.{Rights}
use Rattle.tables.specs.Rights.{Gives}
use Rattle.tables.specs.Sets.{has, reach}
use Rattle.tables.specs.State.{no_rights}
use Rattle.tables.proofs.rights.shares.Given as goal

-- the role of group g has the right
abbrev pub RoleGives : List (Option Rights) → Right → ℕ → Type 0
RoleGives roles right g = Gives (unwrap_or (get_or roles g None) no_rights) right

-- what is left to ask is in both sets; what is in both and not left does not have the right
abbrev pub invariant-loop-g : goal.invariant-loop-g
invariant-loop-g l =
    ((g : ℕ) → has l.both.0 g ≡ true → (has l.fn.mine.0 g ≡ true) × (has l.fn.its.0 g ≡ true))
    × ((g : ℕ) → has l.fn.mine.0 g ≡ true → has l.fn.its.0 g ≡ true → (has l.both.0 g ≡ true) ⊎ (RoleGives l.fn.roles l.fn.right g → ⊥))

abbrev pub decreases-loop-g : goal.decreases-loop-g
decreases-loop-g l = reach l.both.0
