-- What a label scheme means, and the laws that every scheme owes. Assumes nothing.
use Rattle.std.specs.Prelude.{◌≡◌, ℕ, ◌^◌, ◌<◌, Bool, true}

-- A set of labels and two relations on them: is this number a label, does label a flow to label b, does label p hold label c.
pub record Meaning : Type 0 where
  pub label : ℕ → Bool
  pub flow : ℕ → ℕ → Bool
  pub hold : ℕ → ℕ → Bool

-- A relation between labels alone, that every label has to itself and that goes on from step to step.
pub record Ordered (label : ℕ → Bool) (to : ℕ → ℕ → Bool) : Type 0 where
  -- a question about a number that is no label answers no
  pub first : (a b : ℕ) → to a b ≡ true → label a ≡ true
  pub second : (a b : ℕ) → to a b ≡ true → label b ≡ true
  pub itself : (a : ℕ) → label a ≡ true → to a a ≡ true
  pub onward : (a b c : ℕ) → to a b ≡ true → to b c ≡ true → to a c ≡ true

pub record Lawful (m : Meaning) : Type 0 where
  pub small : (a : ℕ) → m.label a ≡ true → a < 2 ^ 64
  pub flowing : Ordered m.label m.flow
  pub holding : Ordered m.label m.hold
