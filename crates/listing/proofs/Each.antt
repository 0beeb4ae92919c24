-- The texts of the numbers below n, one more at a time.
use Rattle.std.specs.List.{repeat}
use Rattle.std.proofs.Common.{◌≡◌, ℕ, zero, suc, ◌+◌, List, [], ◌++◌, sym, refl, ap, ◌∙◌, append_assoc, append-nil, add-one}
use Rattle.listing.specs.Listed.{each}

pub each_none : (f : ℕ → List ℕ) → each f 0 ≡ []
unfolding each
each_none f = refl

pub each_more : (f : ℕ → List ℕ) (k : ℕ) → each f (k + 1) ≡ each f k ++ f k
unfolding each
each_more f k = rw add-one refl

-- nothing is said yet
pub started : (a : List ℕ) (f : ℕ → List ℕ) (out : List ℕ) → out ≡ a → out ≡ a ++ each f 0
started a f out e = e ∙ sym (append-nil a) ∙ ap (λ (bs : List ℕ). a ++ bs) (sym (each_none f))

-- the text of one more number
pub stepped : (a : List ℕ) (f : ℕ → List ℕ) (k : ℕ) (before after text : List ℕ) → before ≡ a ++ each f k → after ≡ before ++ text → f k ≡ text → after ≡ a ++ each f (k + 1)
stepped a f k before after text p q r =
    q ∙ ap (λ (bs : List ℕ). bs ++ text) p ∙ append_assoc a (each f k) text ∙ ap (λ (bs : List ℕ). a ++ (each f k ++ bs)) (sym r) ∙ ap (λ (bs : List ℕ). a ++ bs) (sym (each_more f k))

-- nothing is said of a number
pub passed : (a : List ℕ) (f : ℕ → List ℕ) (k : ℕ) (out : List ℕ) → out ≡ a ++ each f k → f k ≡ [] → out ≡ a ++ each f (k + 1)
passed a f k out p r = stepped a f k out out [] p (sym (append-nil out)) r

-- one text again and again
each_around : (xs : List ℕ) (n : ℕ) → xs ++ each (λ _. xs) n ≡ each (λ _. xs) n ++ xs
unfolding each
each_around xs zero = append-nil xs
each_around xs (suc n) = sym (append_assoc xs (each (λ _. xs) n) xs) ∙ ap (λ (bs : List ℕ). bs ++ xs) (each_around xs n)

pub each_repeated : (xs : List ℕ) (n : ℕ) → repeat n xs ≡ each (λ _. xs) n
unfolding each
each_repeated xs zero = refl
each_repeated xs (suc n) = ap (λ (bs : List ℕ). xs ++ bs) (each_repeated xs n) ∙ each_around xs n
