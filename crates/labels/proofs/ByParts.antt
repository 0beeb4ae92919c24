-- The answers of the two labels in use, for every number. Assumes nothing.
use Rattle.std.proofs.Common.{◌≡◌, ℕ, ◌/◌, ◌%◌, ◌^◌, ◌<◌, ◌≤◌, Bool, leb, Decides, sym, subst, subst₂, arith}
use Rattle.std.proofs.lemmas.Bool.{leb-true, le-leb}
use Rattle.std.proofs.lemmas.Bool.Decides.{Decides-and, Decides-like, Decides-ltb}
use Rattle.labels.specs.Meaning.{Meaning}
use Rattle.labels.specs.Schemes.{level, categories, turned, pair, both}
use Rattle.labels.specs.House.{house, secrecy, secrecy_categories, trust, trust_categories, Labels, Flows, Holds, AnswersByParts}
use Rattle.labels.specs.Old.{old, AnswersByIntegrity}
use Rattle.labels.proofs.Each.{three, by_category}

decides_leb : (a b : ℕ) → Decides (leb a b) (a ≤ b)
decides_leb a b = (leb-true a b, le-leb a b)

-- the parts of the parts
low_level : (n : ℕ) → n % 2 ^ 32 % 2 ^ 16 ≡ secrecy n
low_level n = omega arith

low_set : (n : ℕ) → n % 2 ^ 32 / 2 ^ 16 ≡ secrecy_categories n
low_set n = omega arith

high_set : (n : ℕ) → n / 2 ^ 32 / 2 ^ 16 ≡ trust_categories n
high_set n = omega arith

-- what a pair asks of the two parts of a number
label_of_pair : (c : ℕ) (m n : Meaning) {F G : ℕ → Type 0} → ((x : ℕ) → Decides (m.label x) (F x)) → ((x : ℕ) → Decides (n.label x) (G x))
    → (a : ℕ) → Decides ((pair c m n).label a) ((a < 2 ^ 64) × F (a % 2 ^ c) × G (a / 2 ^ c))
label_of_pair c m n f g a = three _ _ _ (Decides-ltb a (2 ^ 64)) (f (a % 2 ^ c)) (g (a / 2 ^ c))

-- and of the parts of two numbers
both_of_pair : (c : ℕ) (low high : ℕ → ℕ → Bool) {F G : ℕ → ℕ → Type 0} → ((x y : ℕ) → Decides (low x y) (F x y)) → ((x y : ℕ) → Decides (high x y) (G x y))
    → (a b : ℕ) → Decides (both c low high a b) ((a < 2 ^ 64) × (b < 2 ^ 64) × (F (a % 2 ^ c) (b % 2 ^ c) × G (a / 2 ^ c) (b / 2 ^ c)))
both_of_pair c low high f g a b = three _ _ _ (Decides-ltb a (2 ^ 64)) (Decides-ltb b (2 ^ 64)) (Decides-and _ _ (f (a % 2 ^ c) (b % 2 ^ c)) (g (a / 2 ^ c) (b / 2 ^ c)))

-- the label of a pair of pairs, by the four parts of the number
module _ (k l m n : Meaning) {F G H K : ℕ → Type 0}
    (f : (x : ℕ) → Decides (k.label x) (F x)) (g : (x : ℕ) → Decides (l.label x) (G x))
    (h : (x : ℕ) → Decides (m.label x) (H x)) (j : (x : ℕ) → Decides (n.label x) (K x)) where
  pub four_labels : (a : ℕ) → Decides ((pair 32 (pair 16 k l) (pair 16 m n)).label a) ((a < 2 ^ 64) × F (secrecy a) × G (secrecy_categories a) × H (trust a) × K (trust_categories a))
  four_labels a =
      Decides-like _
      (λ p. (p.0, subst F (low_level a) p.1.1, subst G (low_set a) p.1.2, p.2.1, subst K (high_set a) p.2.2))
      (λ p.
      let small : a < 2 ^ 64 = p.0 in
      (small, (omega arith, subst F (sym (low_level a)) p.1, subst G (sym (low_set a)) p.2), (omega arith, p.3, subst K (sym (high_set a)) p.4)))
      (label_of_pair 32 (pair 16 k l) (pair 16 m n) (label_of_pair 16 k l f g) (label_of_pair 16 m n h j) a)

-- a relation of a pair of pairs, by the four parts of two numbers
module _ (k l m n : ℕ → ℕ → Bool) {F G H K : ℕ → ℕ → Type 0}
    (f : (x y : ℕ) → Decides (k x y) (F x y)) (g : (x y : ℕ) → Decides (l x y) (G x y))
    (h : (x y : ℕ) → Decides (m x y) (H x y)) (j : (x y : ℕ) → Decides (n x y) (K x y)) where
  pub four_flow : (a b : ℕ) → Decides (both 32 (both 16 k l) (both 16 m n) a b)
      ((a < 2 ^ 64) × (b < 2 ^ 64) × F (secrecy a) (secrecy b) × G (secrecy_categories a) (secrecy_categories b) × H (trust a) (trust b) × K (trust_categories a) (trust_categories b))
  four_flow a b =
      Decides-like _
      (λ p. (
        p.0,
        p.1,
        subst₂ F (low_level a) (low_level b) p.2.0.2.0,
        subst₂ G (low_set a) (low_set b) p.2.0.2.1,
        p.2.1.2.0,
        subst₂ K (high_set a) (high_set b) p.2.1.2.1,
      ))
      (λ p.
      let small : a < 2 ^ 64 = p.0 in
      let small' : b < 2 ^ 64 = p.1 in (
        small,
        small',
        (
          (omega arith, omega arith, (subst₂ F (sym (low_level a)) (sym (low_level b)) p.2, subst₂ G (sym (low_set a)) (sym (low_set b)) p.3)),
          (omega arith, omega arith, (p.4, subst₂ K (sym (high_set a)) (sym (high_set b)) p.5)),
        ),
      ))
      (both_of_pair 32 (both 16 k l) (both 16 m n) (both_of_pair 16 k l f g) (both_of_pair 16 m n h j) a b)

-- the flow and the holding of levels
up : (m a b : ℕ) → Decides ((level m).flow a b) ((a ≤ m) × (b ≤ m) × (a ≤ b))
up m a b = three _ _ _ (decides_leb a m) (decides_leb b m) (decides_leb a b)

down : (m p c : ℕ) → Decides ((level m).hold p c) ((p ≤ m) × (c ≤ m) × (c ≤ p))
down m p c = three _ _ _ (decides_leb p m) (decides_leb c m) (decides_leb c p)

labels : (n : ℕ) → Decides (house.label n) (Labels n)
unfolding house
labels n =
    Decides-like _
    (λ p. record { secrecy_level = p.1; secrecy_set = p.2; trust_level = p.3; trust_set = p.4 })
    (λ l. let top : trust_categories n < 256 = l.trust_set in (omega arith, l.secrecy_level, l.secrecy_set, l.trust_level, l.trust_set))
    (four_labels (level 2) (categories 8) (turned (level 2)) (turned (categories 8)) (λ x. decides_leb x 2) (by_category 8).label (λ x. decides_leb x 2) (by_category 8).label n)

flows : (a b : ℕ) → Decides (house.flow a b) (Flows a b)
unfolding house
flows a b =
    Decides-like _
    (λ p. record {
      from = record { secrecy_level = p.2.0; secrecy_set = p.3.0; trust_level = p.4.1; trust_set = p.5.1 };
      to = record { secrecy_level = p.2.1; secrecy_set = p.3.1; trust_level = p.4.0; trust_set = p.5.0 };
      secrecy_up = p.2.2;
      secrecy_kept = p.3.2;
      trust_down = p.4.2;
      trust_kept = p.5.2;
    })
    (λ f.
    let top : trust_categories a < 256 = f.from.trust_set in
    let top' : trust_categories b < 256 = f.to.trust_set in (
      omega arith,
      omega arith,
      (f.from.secrecy_level, f.to.secrecy_level, f.secrecy_up),
      (f.from.secrecy_set, f.to.secrecy_set, f.secrecy_kept),
      (f.to.trust_level, f.from.trust_level, f.trust_down),
      (f.to.trust_set, f.from.trust_set, f.trust_kept),
    ))
    (four_flow (level 2).flow (categories 8).flow (turned (level 2)).flow (turned (categories 8)).flow
    (up 2) (by_category 8).flow (λ x y. up 2 y x) (λ x y. (by_category 8).flow y x) a b)

holds : (p c : ℕ) → Decides (house.hold p c) (Holds p c)
unfolding house
holds a b =
    Decides-like _
    (λ p. record {
      outer = record { secrecy_level = p.2.0; secrecy_set = p.3.0; trust_level = p.4.0; trust_set = p.5.0 };
      inner = record { secrecy_level = p.2.1; secrecy_set = p.3.1; trust_level = p.4.1; trust_set = p.5.1 };
      secrecy_below = p.2.2;
      secrecy_inside = p.3.2;
      trust_below = p.4.2;
      trust_inside = p.5.2;
    })
    (λ f.
    let top : trust_categories a < 256 = f.outer.trust_set in
    let top' : trust_categories b < 256 = f.inner.trust_set in (
      omega arith,
      omega arith,
      (f.outer.secrecy_level, f.inner.secrecy_level, f.secrecy_below),
      (f.outer.secrecy_set, f.inner.secrecy_set, f.secrecy_inside),
      (f.outer.trust_level, f.inner.trust_level, f.trust_below),
      (f.outer.trust_set, f.inner.trust_set, f.trust_inside),
    ))
    (four_flow (level 2).hold (categories 8).hold (level 2).hold (categories 8).hold (down 2) (by_category 8).hold (down 2) (by_category 8).hold a b)

pub house_by_parts : AnswersByParts house
house_by_parts = record { label = labels; flow = flows; hold = holds }

pub old_by_integrity : AnswersByIntegrity old
unfolding old
old_by_integrity = record {
  label = λ n. decides_leb n 4;
  flow = λ a b. Decides-like _ (λ p. (p.1, p.2)) (λ p. let h : a ≤ 4 = p.0 in let k : b ≤ a = p.1 in (omega arith, h, k)) (up 4 b a);
  hold = λ a b. Decides-like _ (λ p. (p.0, p.2)) (λ p. let h : a ≤ 4 = p.0 in let k : b ≤ a = p.1 in (h, omega arith, k)) (down 4 a b);
}
