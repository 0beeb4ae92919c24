-- That a call has one answer. Assumes nothing.
use Rattle.std.proofs.Common.{ℕ, zero, suc, ◌<◌, List, [], ◌∷◌, sym, refl, subst, inl, inr}
use Rattle.std.proofs.lemmas.Bool.{cases_order}
use Rattle.labels.specs.Meaning.{Meaning}
use Rattle.calls.specs.Calls.{Ask, asks, AllFine, FineBelow, FineAt, OneAnswer}

all_at : (w : ℕ) (rest : List Ask) → AllFine rest → FineAt w rest
all_at w [] f = tt
all_at w (a ∷ rest) f = ((λ _. f.0), all_at w rest f.1)

below_at : (v w : ℕ) (rest : List Ask) → v < w → FineBelow w rest → FineAt v rest
below_at v w [] lt f = tt
below_at v w (a ∷ rest) lt f = ((λ e. f.0 (subst (λ (x : ℕ). x < w) (sym e) lt)), below_at v w rest lt f.1)

-- a call has one answer
pub one_answer : (m : Meaning) → OneAnswer m
one_answer m t c zero zero f g = refl
one_answer m t c zero (suc w) f g = absurd (g.1 (all_at (suc w) (asks m t c) f))
one_answer m t c (suc v) zero f g = absurd (f.1 (all_at (suc v) (asks m t c) g))
one_answer m t c (suc v) (suc w) f g = elim (cases_order (suc v) (suc w)) [
  | inl e ↦ e
  | inr o ↦ elim o [
    | inl lt ↦ absurd (f.1 (below_at (suc v) (suc w) (asks m t c) lt g.0))
    | inr gt ↦ absurd (g.1 (below_at (suc w) (suc v) (asks m t c) gt f.0))
  ]
]
