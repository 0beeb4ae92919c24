-- The laws of the four schemes. Assumes nothing.
use Rattle.std.specs.Prelude.{◌≡◌, ℕ, ◌/◌, ◌%◌, ◌^◌, ◌<◌, ◌≤◌, Bool, true, ◌&&◌, nat_le, nat_lt}
use Rattle.std.proofs.Common.{arith}
use Rattle.std.proofs.Math.Pow.{pow_mono}
use Rattle.std.proofs.lemmas.Bool.{and_parts, and_from, leb-true, le-leb, ltb-true}
use Rattle.labels.specs.Meaning.{Meaning, Ordered, Lawful}
use Rattle.labels.specs.Schemes.{among, within, level, categories, turned, pair, both}
use Rattle.labels.specs.Subsets.{within_self, within_through}

opposite : {label : ℕ → Bool} {to : ℕ → ℕ → Bool} → Ordered label to → Ordered label (λ a b. to b a)
opposite o = record {
  first = λ a b. o.second b a;
  second = λ a b. o.first b a;
  itself = o.itself;
  onward = λ a b c p q. o.onward c b a q p;
}

pub turned_lawful : {m : Meaning} → Lawful m → Lawful (turned m)
turned_lawful l = record { small = l.small; flowing = opposite l.flowing; holding = l.holding }

-- three answers at once
three_parts : (x y z : Bool) → (x && (y && z)) ≡ true → (x ≡ true) × (y ≡ true) × (z ≡ true)
three_parts x y z e = let p = and_parts x (y && z) e in let q = and_parts y z p.1 in (p.0, q.0, q.1)

from_three : (x y z : Bool) → x ≡ true → y ≡ true → z ≡ true → (x && (y && z)) ≡ true
from_three x y z p q r = and_from x (y && z) p (and_from y z q r)

-- a relation asked of labels alone
among_ordered : (label : ℕ → Bool) (to : ℕ → ℕ → Bool) → ((a : ℕ) → to a a ≡ true) → ((a b c : ℕ) → to a b ≡ true → to b c ≡ true → to a c ≡ true) → Ordered label (among label to)
among_ordered label to itself onward = record {
  first = λ a b e. (three_parts (label a) (label b) (to a b) e).0;
  second = λ a b e. (three_parts (label a) (label b) (to a b) e).1;
  itself = λ a e. from_three (label a) (label a) (to a a) e e (itself a);
  onward = λ a b c e f.
      let p = three_parts (label a) (label b) (to a b) e in
      let q = three_parts (label b) (label c) (to b c) f in
      from_three (label a) (label c) (to a c) p.0 q.1 (onward a b c p.2 q.2);
}

le_itself : (a : ℕ) → nat_le a a ≡ true
le_itself a = le-leb a a (omega arith)

le_onward : (a b c : ℕ) → nat_le a b ≡ true → nat_le b c ≡ true → nat_le a c ≡ true
le_onward a b c e f = le-leb a c (omega (arith, leb-true a b e, leb-true b c f))

pub level_lawful : (m : ℕ) → m < 65536 → Lawful (level m)
level_lawful m h = record {
  small = λ a e. omega (arith, h, leb-true a m e);
  flowing = among_ordered (λ a. nat_le a m) nat_le le_itself le_onward;
  holding = among_ordered (λ a. nat_le a m) (λ p c. nat_le c p) le_itself (λ a b c p q. le_onward c b a q p);
}

pub categories_lawful : (k : ℕ) → k ≤ 32 → Lawful (categories k)
categories_lawful k h = record {
  small = λ a e. let top : 2 ^ k ≤ 2 ^ 32 = pow_mono h in omega (arith, ltb-true a (2 ^ k) e, top);
  flowing = among_ordered (λ a. nat_lt a (2 ^ k)) within within_self within_through;
  holding = among_ordered (λ a. nat_lt a (2 ^ k)) (λ p c. within c p) within_self (λ a b c p q. within_through c b a q p);
}

-- a relation that both parts of two numbers have
module _ (k : ℕ) {label above : ℕ → Bool} {to over : ℕ → ℕ → Bool} (low : Ordered label to) (high : Ordered above over) where
  of_both : (a b : ℕ) → both k to over a b ≡ true → (nat_lt a (2 ^ 64) ≡ true) × (nat_lt b (2 ^ 64) ≡ true) × (to (a % 2 ^ k) (b % 2 ^ k) ≡ true) × (over (a / 2 ^ k) (b / 2 ^ k) ≡ true)
  of_both a b e =
      let p = three_parts (nat_lt a (2 ^ 64)) (nat_lt b (2 ^ 64)) (to (a % 2 ^ k) (b % 2 ^ k) && over (a / 2 ^ k) (b / 2 ^ k)) e in
      let q = and_parts (to (a % 2 ^ k) (b % 2 ^ k)) (over (a / 2 ^ k) (b / 2 ^ k)) p.2 in
      (p.0, p.1, q.0, q.1)

  to_both : (a b : ℕ) → nat_lt a (2 ^ 64) ≡ true → nat_lt b (2 ^ 64) ≡ true → to (a % 2 ^ k) (b % 2 ^ k) ≡ true → over (a / 2 ^ k) (b / 2 ^ k) ≡ true → both k to over a b ≡ true
  to_both a b p q r s =
      from_three (nat_lt a (2 ^ 64)) (nat_lt b (2 ^ 64)) (to (a % 2 ^ k) (b % 2 ^ k) && over (a / 2 ^ k) (b / 2 ^ k)) p q
      (and_from (to (a % 2 ^ k) (b % 2 ^ k)) (over (a / 2 ^ k) (b / 2 ^ k)) r s)

  both_ordered : Ordered (λ a. nat_lt a (2 ^ 64) && (label (a % 2 ^ k) && above (a / 2 ^ k))) (both k to over)
  both_ordered = record {
    first = λ a b e.
        let p = of_both a b e in
        from_three (nat_lt a (2 ^ 64)) (label (a % 2 ^ k)) (above (a / 2 ^ k)) p.0 (low.first (a % 2 ^ k) (b % 2 ^ k) p.2) (high.first (a / 2 ^ k) (b / 2 ^ k) p.3);
    second = λ a b e.
        let p = of_both a b e in
        from_three (nat_lt b (2 ^ 64)) (label (b % 2 ^ k)) (above (b / 2 ^ k)) p.1 (low.second (a % 2 ^ k) (b % 2 ^ k) p.2) (high.second (a / 2 ^ k) (b / 2 ^ k) p.3);
    itself = λ a e.
        let p = three_parts (nat_lt a (2 ^ 64)) (label (a % 2 ^ k)) (above (a / 2 ^ k)) e in
        to_both a a p.0 p.0 (low.itself (a % 2 ^ k) p.1) (high.itself (a / 2 ^ k) p.2);
    onward = λ a b c e f.
        let p = of_both a b e in
        let q = of_both b c f in
        to_both a c p.0 q.1 (low.onward (a % 2 ^ k) (b % 2 ^ k) (c % 2 ^ k) p.2 q.2) (high.onward (a / 2 ^ k) (b / 2 ^ k) (c / 2 ^ k) p.3 q.3);
  }

pub pair_lawful : (k : ℕ) {m n : Meaning} → Lawful m → Lawful n → Lawful (pair k m n)
pair_lawful k {m} {n} low high = record {
  small = λ a e. ltb-true a (2 ^ 64) (three_parts (nat_lt a (2 ^ 64)) (m.label (a % 2 ^ k)) (n.label (a / 2 ^ k)) e).0;
  flowing = both_ordered k low.flowing high.flowing;
  holding = both_ordered k low.holding high.holding;
}
