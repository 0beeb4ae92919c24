-- What is decided outright, and what is in no set. Assumes nothing.
use Rattle.std.proofs.Common.{◌≡◌, ℕ, ◌^◌, ◌<◌, ◌≤◌, true, false, Decides, refl, arith, pow_mono}
use Rattle.std.proofs.lemmas.Bool.{false≢true, both_ways}
use Rattle.tables.specs.Sets.{has}
use Rattle.tables.proofs.Bitwise.{has_past}

-- yes decides what holds, and no what does not
pub yes : {P : Type 0} → P → Decides true P
yes p = ((λ _. p), λ _. refl)

pub no : {P : Type 0} → (P → ⊥) → Decides false P
no n = ((λ e. absurd (false≢true e)), λ p. absurd (n p))

-- a set of numbers of w bits has none from w on
pub none_past : (n w k : ℕ) → n < 2 ^ w → w ≤ k → has n k ≡ true → ⊥
none_past n w k small far in-it = let wide : 2 ^ w ≤ 2 ^ k = pow_mono far in both_ways (has n k) (has_past n k (omega arith)) in-it
