-- What a value of each scheme's type means; for a scheme over others, by what those mean. Assumes nothing.
use Rattle.labels.specs.Meaning.{Meaning}
use Rattle.labels.specs.Schemes.{level, categories, turned, pair}
use Rattle.labels.specs.declared.levels.Level.{Level}
use Rattle.labels.specs.declared.sets.Categories.{Categories}
use Rattle.labels.specs.declared.turns.Turned.{Turned}
use Rattle.labels.specs.declared.pairs.Pair.{Pair}

abbrev pub level_of : Level → Meaning
level_of s = level s.max

abbrev pub categories_of : Categories → Meaning
categories_of s = categories s.bits

abbrev pub turned_of : {A : Type 0} → (A → Meaning) → Turned A → Meaning
turned_of below s = turned (below s.0)

abbrev pub pair_of : {A B : Type 0} → (A → Meaning) → (B → Meaning) → Pair A B → Meaning
pair_of low high s = pair s.cut (low s.low) (high s.high)

-- the types of the two labels in use
abbrev pub house_of : Pair (Pair Level Categories) (Pair (Turned Level) (Turned Categories)) → Meaning
house_of = pair_of (pair_of level_of categories_of) (pair_of (turned_of level_of) (turned_of categories_of))

abbrev pub old_of : Turned Level → Meaning
old_of = turned_of level_of
