-- The house label: secrecy and trust, each a level and a set of categories. Assumes nothing.
use Rattle.std.specs.Prelude.{ℕ, ◌+◌, ◌*◌, ◌/◌, ◌%◌, ◌^◌, ◌<◌, ◌≤◌, Decides}
use Rattle.labels.specs.Meaning.{Meaning}
use Rattle.labels.specs.Schemes.{level, categories, turned, pair, Each}

-- the number of the label (a, b; c, d)
abbrev pub numbered : ℕ → ℕ → ℕ → ℕ → ℕ
numbered a b c d = a + 65536 * b + 2 ^ 32 * c + 2 ^ 48 * d

-- the four parts of a number: of a label, its secrecy level and categories, its trust level and categories
abbrev pub secrecy : ℕ → ℕ
secrecy n = n % 65536

abbrev pub secrecy_categories : ℕ → ℕ
secrecy_categories n = n / 65536 % 65536

abbrev pub trust : ℕ → ℕ
trust n = n / 2 ^ 32 % 65536

abbrev pub trust_categories : ℕ → ℕ
trust_categories n = n / 2 ^ 48

-- levels 0 to 2 and eight categories, on both sides
pub record Labels (n : ℕ) : Type 0 where
  pub secrecy_level : secrecy n ≤ 2
  pub secrecy_set : secrecy_categories n < 256
  pub trust_level : trust n ≤ 2
  pub trust_set : trust_categories n < 256

-- what is secret flows to what is at least as secret, and what is trusted to what is at most as trusted
pub record Flows (a b : ℕ) : Type 0 where
  pub from : Labels a
  pub to : Labels b
  pub secrecy_up : secrecy a ≤ secrecy b
  pub secrecy_kept : Each (secrecy_categories a) (secrecy_categories b)
  pub trust_down : trust b ≤ trust a
  pub trust_kept : Each (trust_categories b) (trust_categories a)

-- a container holds what is at most as secret and at most as trusted
pub record Holds (p c : ℕ) : Type 0 where
  pub outer : Labels p
  pub inner : Labels c
  pub secrecy_below : secrecy c ≤ secrecy p
  pub secrecy_inside : Each (secrecy_categories c) (secrecy_categories p)
  pub trust_below : trust c ≤ trust p
  pub trust_inside : Each (trust_categories c) (trust_categories p)

-- The answers of the house label for every number, part by part.
pub record AnswersByParts (m : Meaning) : Type 0 where
  pub label : (n : ℕ) → Decides (m.label n) (Labels n)
  pub flow : (a b : ℕ) → Decides (m.flow a b) (Flows a b)
  pub hold : (p c : ℕ) → Decides (m.hold p c) (Holds p c)

-- The same from the four schemes: secrecy below, trust above and turned.
unfoldable pub house : Meaning
house = pair 32 (pair 16 (level 2) (categories 8)) (pair 16 (turned (level 2)) (turned (categories 8)))
