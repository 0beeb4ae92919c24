-- The meanings of the four schemes. Assumes nothing.
use Rattle.std.specs.Prelude.{◌≡◌, ℕ, ◌/◌, ◌%◌, ◌^◌, ◌<◌, Bool, ◌&&◌, Decides, ◌==◌, bit_and, nat_le, nat_lt}
use Rattle.labels.specs.Meaning.{Meaning}

-- a relation asked of labels alone: of any other number it answers no
abbrev pub among : (ℕ → Bool) → (ℕ → ℕ → Bool) → ℕ → ℕ → Bool
among label to a b = label a && (label b && to a b)

-- Level: the labels are 0 to m; a flows to b if a ≤ b, and p holds c if c ≤ p.
abbrev pub level : ℕ → Meaning
level m = record {
  label = λ a. nat_le a m;
  flow = among (λ a. nat_le a m) nat_le;
  hold = among (λ a. nat_le a m) (λ p c. nat_le c p);
}

-- b has all of a's categories
abbrev pub within : ℕ → ℕ → Bool
within a b = bit_and a b == a

-- Categories: the labels are the sets of k categories, bit i for category i; a flows to b if b has all of a's, and p holds c if p has all of c's.
abbrev pub categories : ℕ → Meaning
categories k = record {
  label = λ a. nat_lt a (2 ^ k);
  flow = among (λ a. nat_lt a (2 ^ k)) within;
  hold = among (λ a. nat_lt a (2 ^ k)) (λ p c. within c p);
}

-- Turned: the labels and the holding of the scheme below, with its flow the other way.
abbrev pub turned : Meaning → Meaning
turned m = record { label = m.label; flow = λ a b. m.flow b a; hold = m.hold }

-- a relation that both parts of two numbers must have, where the low part is the remainder by 2 ^ c and the high part the quotient
abbrev pub both : ℕ → (ℕ → ℕ → Bool) → (ℕ → ℕ → Bool) → ℕ → ℕ → Bool
both c low high = among (λ a. nat_lt a (2 ^ 64)) (λ a b. low (a % 2 ^ c) (b % 2 ^ c) && high (a / 2 ^ c) (b / 2 ^ c))

-- Pair: label, flow and holding each need both parts.
abbrev pub pair : ℕ → Meaning → Meaning → Meaning
pair c low high = record {
  label = λ a. nat_lt a (2 ^ 64) && (low.label (a % 2 ^ c) && high.label (a / 2 ^ c));
  flow = both c low.flow high.flow;
  hold = both c low.hold high.hold;
}

-- category i is in the set a
abbrev pub Has : ℕ → ℕ → Type 0
Has a i = a / 2 ^ i % 2 ≡ 1

-- each category of a is one of b
abbrev pub Each : ℕ → ℕ → Type 0
Each a b = (i : ℕ) → Has a i → Has b i

-- What a scheme of k categories answers, category by category.
pub record ByCategory (k : ℕ) (m : Meaning) : Type 0 where
  pub label : (a : ℕ) → Decides (m.label a) (a < 2 ^ k)
  pub flow : (a b : ℕ) → Decides (m.flow a b) ((a < 2 ^ k) × (b < 2 ^ k) × Each a b)
  pub hold : (p c : ℕ) → Decides (m.hold p c) ((p < 2 ^ k) × (c < 2 ^ k) × Each c p)
