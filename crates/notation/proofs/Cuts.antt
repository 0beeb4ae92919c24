-- Where a text is cut. Assumes nothing.
use Rattle.std.proofs.Common.{◌≡◌, ℕ, zero, suc, ◌<◌, Bool, true, false, cond, not, eqb, List, [], ◌∷◌, ◌++◌, length, is_some, Some, None, decimal, Option, sym, refl, ◌∙◌, ap₂, append_assoc, arith, Bor, MatchOption}
use Rattle.std.proofs.lemmas.Str.Pattern.{IsSplitOnceResult, split_after, split_parts}
use Rattle.std.proofs.lemmas.Option.{MatchOption-at_some, MatchOption-at_none}
use Rattle.std.proofs.lemmas.Bool.{eq-eqb, ne_eqb}
use Rattle.labels.specs.declared.houses.Parts.{Parts}
use Rattle.notation.specs.Texts.{Lacks, pieces, before, words, words_in}
use Rattle.labels.specs.Parts.{notation}
use Rattle.notation.specs.Notation.{Small}
use Rattle.notation.proofs.Decimals.{decimal_lacks}

-- byte by byte
pub lacks_first : (c b : ℕ) (bs : List ℕ) → Lacks c (b ∷ bs) → b ≡ c → ⊥
lacks_first c b bs h e = h 0 (omega arith) e

pub lacks_rest : (c b : ℕ) (bs : List ℕ) → Lacks c (b ∷ bs) → Lacks c bs
lacks_rest c b bs h i lt e = h (suc i) (omega arith) e

pub lacks_more : (c b : ℕ) (bs : List ℕ) → (b ≡ c → ⊥) → Lacks c bs → Lacks c (b ∷ bs)
lacks_more c b bs n h zero lt e = n e
lacks_more c b bs n h (suc i) lt e = h i (omega arith) e

pub lacks_append : (c : ℕ) (xs bs : List ℕ) → Lacks c xs → Lacks c bs → Lacks c (xs ++ bs)
lacks_append c [] bs h k = k
lacks_append c (x ∷ xs) bs h k = lacks_more c x (xs ++ bs) (lacks_first c x xs h) (lacks_append c xs bs (lacks_rest c x xs h) k)

-- a text without the byte is one piece
pub pieces_one : (c : ℕ) (bs : List ℕ) → Lacks c bs → pieces c bs ≡ bs ∷ []
pieces_one c [] h = refl
pieces_one c (b ∷ bs) h = rw (ne_eqb b c (lacks_first c b bs h), pieces_one c bs (lacks_rest c b bs h)) refl

-- the first piece ends at the first such byte
pub pieces_cut : (c : ℕ) (bs rest : List ℕ) → Lacks c bs → pieces c (bs ++ (c ∷ rest)) ≡ bs ∷ pieces c rest
pieces_cut c [] rest h = rw (eq-eqb c c refl) refl
pieces_cut c (b ∷ bs) rest h = rw (ne_eqb b c (lacks_first c b bs h), pieces_cut c bs rest (lacks_rest c b bs h)) refl

before_some : (b : ℕ) (ps : List (List ℕ)) → 0 < length (before b ps)
before_some b [] = omega arith
before_some b (p ∷ ps) = omega arith

-- there is always a piece
pub pieces_some : (c : ℕ) (bs : List ℕ) → 0 < length (pieces c bs)
pieces_some c [] = omega arith
pieces_some c (b ∷ bs) = elim (eqb b c) as (λ t. 0 < length (cond t ([] ∷ pieces c bs) (before b (pieces c bs)))) [ true ↦ omega arith | false ↦ before_some b (pieces c bs) ]

pub left_none : (o : Option (Bor (List ℕ))) (b : Bool) → is_some o ≡ not b → b ≡ eqb (length (words_in o)) 0
left_none None true e = refl
left_none None false e = cc
left_none (Some text) true e = cc
left_none (Some text) false e = sym (ne_eqb (length (words text.now)) 0 (λ z. omega (arith, pieces_some 32 text.now)))

-- a,b
abbrev Two : List ℕ → ℕ → ℕ → Type 0
Two bs m n = bs ≡ decimal m ++ (44 ∷ decimal n)

module _ (bs : List ℕ) (r : Option (Bor (List ℕ) × Bor (List ℕ))) (at : IsSplitOnceResult 44 bs r) where
  cut_two : (m n : ℕ) → m < 65536 → Two bs m n → MatchOption r ⊥ (λ x. (x.0.now ≡ decimal m) × (x.1.now ≡ decimal n))
  cut_two m n h e = split_after 44 bs (decimal m) (decimal n) r at (omega arith) e (decimal_lacks 44 m (omega arith) (λ d. omega arith))

  pub two_uncut : r ≡ None → (m n : ℕ) → m < 65536 → Two bs m n → ⊥
  two_uncut is m n h e = MatchOption-at_none _ _ is (cut_two m n h e)

  module _ (x : Bor (List ℕ) × Bor (List ℕ)) (is : r ≡ Some x) where
    pub two_cut : (m n : ℕ) → m < 65536 → Two bs m n → (x.0.now ≡ decimal m) × (x.1.now ≡ decimal n)
    two_cut m n h e = MatchOption-at_some _ _ x is (cut_two m n h e)

    pub two_from : (m n : ℕ) → x.0.now ≡ decimal m → x.1.now ≡ decimal n → Two bs m n
    two_from m n f g = (MatchOption-at_some _ _ x is (split_parts 44 bs r at (omega arith))).0 ∙ ap₂ (λ (y z : List ℕ). y ++ (44 ∷ z)) f g

-- a,b;c,d
module _ (bs : List ℕ) (r : Option (Bor (List ℕ) × Bor (List ℕ))) (at : IsSplitOnceResult 59 bs r) where
  cut_parts : (p : Parts) → Small p → bs ≡ notation p → MatchOption r ⊥ (λ x. Two x.0.now p.secrecy p.secrecy_categories × Two x.1.now p.trust p.trust_categories)
  cut_parts p small e =
      let a = small.secrecy in
      let b = small.secrecy_categories_fit in
      split_after 59 bs (decimal p.secrecy ++ (44 ∷ decimal p.secrecy_categories)) (decimal p.trust ++ (44 ∷ decimal p.trust_categories)) r at (omega arith)
      (e ∙ sym (append_assoc (decimal p.secrecy) (44 ∷ decimal p.secrecy_categories) _))
      (lacks_append 59 (decimal p.secrecy) (44 ∷ decimal p.secrecy_categories)
      (decimal_lacks 59 p.secrecy (omega arith) (λ d. omega arith))
      (lacks_more 59 44 (decimal p.secrecy_categories) (λ z. omega arith) (decimal_lacks 59 p.secrecy_categories (omega arith) (λ d. omega arith))))

  pub parts_uncut : r ≡ None → (p : Parts) → Small p → bs ≡ notation p → ⊥
  parts_uncut is p small e = MatchOption-at_none _ _ is (cut_parts p small e)

  module _ (x : Bor (List ℕ) × Bor (List ℕ)) (is : r ≡ Some x) where
    pub parts_cut : (p : Parts) → Small p → bs ≡ notation p → Two x.0.now p.secrecy p.secrecy_categories × Two x.1.now p.trust p.trust_categories
    parts_cut p small e = MatchOption-at_some _ _ x is (cut_parts p small e)

    pub parts_from : (p : Parts) → Two x.0.now p.secrecy p.secrecy_categories → Two x.1.now p.trust p.trust_categories → bs ≡ notation p
    parts_from p f g =
        (MatchOption-at_some _ _ x is (split_parts 59 bs r at (omega arith))).0 ∙ ap₂ (λ (y z : List ℕ). y ++ (59 ∷ z)) f g
        ∙ append_assoc (decimal p.secrecy) (44 ∷ decimal p.secrecy_categories) (59 ∷ (decimal p.trust ++ (44 ∷ decimal p.trust_categories)))
