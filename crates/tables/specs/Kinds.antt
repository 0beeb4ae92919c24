-- The kinds of objects by number. Assumes nothing.
use Rattle.std.specs.Prelude.{◌≡◌, ℕ, ◌<◌, ◌≤◌, cond, MatchResult, Result, ◌==◌}
use Rattle.tables.specs.declared.types.Kind.{Kind}
use Rattle.tables.specs.declared.types.Kind.TheVariants.{Container, File, Program}
use Rattle.tables.specs.declared.kinds.UnknownKind.{UnknownKind}

-- the kind that a number stands for: every number from 2 on stands for a program
abbrev pub kind_of : ℕ → Kind
kind_of k = cond (k == 0) Container (cond (k == 1) File Program)

-- the number of a kind
abbrev pub number_of_kind : Kind → ℕ
number_of_kind Container = 0
number_of_kind File = 1
number_of_kind Program = 2

-- a number below 3 is read as its kind, and another one is refused with itself
abbrev pub Decodes : ℕ → Result Kind UnknownKind → Type 0
Decodes n r = MatchResult r (λ k. (n < 3) × (k ≡ kind_of n)) (λ e. (3 ≤ n) × (e.0 ≡ n))
