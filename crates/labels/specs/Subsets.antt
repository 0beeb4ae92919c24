-- To have all of another's categories goes on from step to step. Assumes nothing.
use Rattle.std.specs.Prelude.{◌≡◌, ℕ, true, bit_and}
use Rattle.std.proofs.Common.{sym, ap, ◌∙◌}
use Rattle.std.specs.Int.Bits.{and_self}
use Rattle.std.proofs.lemmas.Nat.{and_assoc}
use Rattle.std.proofs.lemmas.Bool.{eqb-true, eq-eqb}
use Rattle.labels.specs.Schemes.{within}

pub within_self : (a : ℕ) → within a a ≡ true
within_self a = eq-eqb (bit_and a a) a (and_self a)

pub within_through : (a b c : ℕ) → within a b ≡ true → within b c ≡ true → within a c ≡ true
within_through a b c p q =
    let ab = eqb-true (bit_and a b) a p in
    let bc = eqb-true (bit_and b c) b q in
    eq-eqb (bit_and a c) a (ap (λ (x : ℕ). bit_and x c) (sym ab) ∙ and_assoc c a b ∙ ap (bit_and a) bc ∙ ab)
