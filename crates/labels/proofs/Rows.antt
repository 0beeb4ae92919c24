-- The marked rows, by one test that antt computes over the whole list. Assumes nothing.
use Rattle.std.proofs.Common.{◌≡◌, Bool, true, false, ◌&&◌, List, [], ◌∷◌, refl}
use Rattle.std.specs.List.{AllByRecursion}
use Rattle.std.proofs.lemmas.Bool.{and_parts}
use Rattle.labels.specs.House.{house}
use Rattle.labels.specs.Old.{old}
use Rattle.labels.specs.Marked.{Row, answer, marked, MarkedStand}

abbrev pub every : {X : Type 0} → (X → Bool) → List X → Bool
every test [] = true
every test (x ∷ xs) = test x && every test xs

-- what passes a test that tells enough stands, row by row
pub all_by_test : {X : Type 0} (test : X → Bool) (Stands : X → Type 0) → ((x : X) → test x ≡ true → Stands x) → (xs : List X) → every test xs ≡ true → AllByRecursion Stands xs
all_by_test test Stands shown [] e = tt
all_by_test test Stands shown (x ∷ xs) e =
    let parts = and_parts (test x) (every test xs) e in
    (shown x parts.0, all_by_test test Stands shown xs parts.1)

abbrev agree : Bool → Bool → Bool
agree true b = b
agree false true = false
agree false false = true

agreed : (a b : Bool) → agree a b ≡ true → a ≡ b
agreed true true e = refl
agreed true false e = cc
agreed false true e = cc
agreed false false e = refl

-- the test of a question about labels
abbrev pub right : Row → Bool
right r = agree (answer r.asked) r.told

pub right_stands : (r : Row) → right r ≡ true → answer r.asked ≡ r.told
right_stands r e = agreed (answer r.asked) r.told e

pub marked_stand : MarkedStand
unfolding house old
marked_stand = all_by_test right (λ r. answer r.asked ≡ r.told) right_stands marked refl
