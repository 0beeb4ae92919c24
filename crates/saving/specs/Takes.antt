-- What it is for a sink to take bytes.
use Rattle.std.specs.Prelude.{ℕ, List, ◌++◌}

-- Between b and c the bytes xs were taken, behind all that was taken before: `puts a ws b` says that ws was taken from a to b.
abbrev pub Took : {S : Type 0} → (S → List ℕ → S → Type 0) → S → List ℕ → S → Type 0
Took {S} puts b xs c = (a : S) (ws : List ℕ) → puts a ws b → puts a (ws ++ xs) c
