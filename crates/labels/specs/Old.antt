-- The old integrity label: five levels, from untrusted 0 to system 4. Assumes nothing.
use Rattle.std.specs.Prelude.{ℕ, ◌≤◌, Decides}
use Rattle.labels.specs.Meaning.{Meaning}
use Rattle.labels.specs.Schemes.{level, turned}

-- The answers of the old label for every number: it flows to what is at most as trusted, and holds what is at most as trusted.
pub record AnswersByIntegrity (m : Meaning) : Type 0 where
  pub label : (n : ℕ) → Decides (m.label n) (n ≤ 4)
  pub flow : (a b : ℕ) → Decides (m.flow a b) ((a ≤ 4) × (b ≤ a))
  pub hold : (p c : ℕ) → Decides (m.hold p c) ((p ≤ 4) × (c ≤ p))

unfoldable pub old : Meaning
old = turned (level 4)
