-- How labels are written. Assumes nothing.
use Rattle.std.specs.Prelude.{◌≡◌, ℕ, ◌^◌, ◌<◌, ◌⊎◌, List, codes, decimal}
use Rattle.labels.specs.declared.houses.Parts.{Parts}
use Rattle.labels.specs.Parts.{number, notation}
use Rattle.labels.specs.Meaning.{Meaning}
use Rattle.labels.specs.House.{house}
use Rattle.labels.specs.Old.{old}
use Rattle.notation.specs.declared.schemes.SchemeName.{SchemeName}
use Rattle.notation.specs.declared.schemes.SchemeName.TheVariants.{House, Old}

-- each part has 16 bits
pub record Small (p : Parts) : Type 0 where
  pub secrecy : p.secrecy < 65536
  pub secrecy_categories_fit : p.secrecy_categories < 65536
  pub trust : p.trust < 65536
  pub trust_categories_fit : p.trust_categories < 65536

-- the text names the number n: by itself, in decimal, and for the house label by its parts as well
abbrev pub Names : SchemeName → List ℕ → ℕ → Type 0
Names Old text n = (n < 2 ^ 64) × (text ≡ decimal n)
Names House text n = ((n < 2 ^ 64) × (text ≡ decimal n)) ⊎ ((p : Parts) × Small p × (text ≡ notation p) × (n ≡ number p))

-- what the two label schemes are called
abbrev pub called_scheme : SchemeName → List ℕ
called_scheme House = codes "house"
called_scheme Old = codes "old"

abbrev pub meaning_of : SchemeName → Meaning
meaning_of House = house
meaning_of Old = old
