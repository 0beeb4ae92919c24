-- The test on two sets, category by category. Assumes nothing.
use Rattle.std.proofs.Common.{◌≡◌, ℕ, ◌+◌, ◌/◌, ◌%◌, ◌^◌, min, Bool, ◌&&◌, Decides, sym, refl, ap, ◌∙◌, div-one, arith, shr-shr}
use lib.Arith.{bin_ind}
use lib.Bits.{bit_and, and_shr, and_step}
use Rattle.std.proofs.lemmas.Bool.{eqb-true, eq-eqb}
use Rattle.std.proofs.lemmas.Bool.Decides.{Decides-and, Decides-like, Decides-ltb}
use Rattle.labels.specs.Schemes.{within, categories, Has, Each, ByCategory}

-- the low bit of a meet
meet_low : (a b : ℕ) → bit_and a b % 2 ≡ min (a % 2) (b % 2)
meet_low a b = omega (arith, and_step a b)

forth : (a b : ℕ) → bit_and a b ≡ a → (i : ℕ) → Has a i → Has b i
forth a b e i h =
    let shifted : bit_and (a / 2 ^ i) (b / 2 ^ i) ≡ a / 2 ^ i = sym (and_shr a b i) ∙ ap (λ (x : ℕ). x / 2 ^ i) e in
    let low : min (a / 2 ^ i % 2) (b / 2 ^ i % 2) ≡ a / 2 ^ i % 2 = sym (meet_low (a / 2 ^ i) (b / 2 ^ i)) ∙ ap (λ (x : ℕ). x % 2) shifted in
    omega (arith, h, low)

-- category i of the half is category 1 + i
half : (a i : ℕ) → a / 2 / 2 ^ i ≡ a / 2 ^ (1 + i)
half a i = shr-shr a 1 i

back : (a b : ℕ) → ((i : ℕ) → Has a i → Has b i) → bit_and a b ≡ a
back =
    bin_ind (λ (n : ℕ). (b : ℕ) → ((i : ℕ) → Has n i → Has b i) → bit_and n b ≡ n) (λ b f. refl)
    (λ n ih b f.
    let rest : bit_and (n / 2) (b / 2) ≡ n / 2 =
    ih (b / 2) (λ i h. ap (λ (x : ℕ). x % 2) (half b i) ∙ f (1 + i) (ap (λ (x : ℕ). x % 2) (sym (half n i)) ∙ h)) in
    let low : n % 2 ≡ 1 → b % 2 ≡ 1 =
    λ h. ap (λ (x : ℕ). x % 2) (sym (div-one b)) ∙ f 0 (ap (λ (x : ℕ). x % 2) (div-one n) ∙ h) in
    grind (arith, rest, low, and_step n b))

pub within_each : (a b : ℕ) → Decides (within a b) (Each a b)
within_each a b = ((λ e. forth a b (eqb-true (bit_and a b) a e)), λ f. eq-eqb (bit_and a b) a (back a b f))

-- three tests in a row
pub three : {P Q R : Type 0} (x y z : Bool) → Decides x P → Decides y Q → Decides z R → Decides (x && (y && z)) (P × Q × R)
three x y z p q r = Decides-like (x && (y && z)) (λ h. (h.0, h.1.0, h.1.1)) (λ h. (h.0, (h.1, h.2))) (Decides-and x (y && z) p (Decides-and y z q r))

pub by_category : (k : ℕ) → ByCategory k (categories k)
by_category k = record {
  label = λ a. Decides-ltb a (2 ^ k);
  flow = λ a b. three _ _ _ (Decides-ltb a (2 ^ k)) (Decides-ltb b (2 ^ k)) (within_each a b);
  hold = λ p c. three _ _ _ (Decides-ltb p (2 ^ k)) (Decides-ltb c (2 ^ k)) (within_each c p);
}
