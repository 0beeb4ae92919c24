-- The four parts of a label's number, and how they are written. Assumes nothing.
use Rattle.std.specs.Prelude.{◌≡◌, ℕ, List, ◌∷◌, ◌++◌, decimal}
use Rattle.labels.specs.House.{numbered, secrecy, secrecy_categories, trust, trust_categories}
use Rattle.labels.specs.declared.houses.Parts.{Parts}

abbrev pub parts_of : ℕ → Parts
parts_of n = record { secrecy = secrecy n; secrecy_categories = secrecy_categories n; trust = trust n; trust_categories = trust_categories n }

abbrev pub number : Parts → ℕ
number p = numbered p.secrecy p.secrecy_categories p.trust p.trust_categories

-- a,b;c,d in decimal: secrecy level and categories, trust level and categories
abbrev pub notation : Parts → List ℕ
notation p = decimal p.secrecy ++ (44 ∷ (decimal p.secrecy_categories ++ (59 ∷ (decimal p.trust ++ (44 ∷ decimal p.trust_categories)))))

-- the parts of a number, which are of no other
pub record ArePartsOf (n : ℕ) (p : Parts) : Type 0 where
  pub parts : p ≡ parts_of n
  pub back : number p ≡ n
