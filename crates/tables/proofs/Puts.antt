-- Reading a table after a write. Assumes nothing.
use Rattle.std.proofs.Common.{◌≡◌, ℕ, zero, suc, ◌<◌, true, List, [], ◌∷◌, map, length, get_or, set, is_some, Some, None, Option, unwrap_or, refl, ap, subst, le_of_suc-le-suc, not-suc-le-zero, arith}
use Rattle.std.proofs.lemmas.Bool.{false≢true}

module _ {A : Type 0} where
  -- a slot that holds something is within the table
  pub within : (l : List (Option A)) (i : ℕ) → is_some (get_or l i None) ≡ true → i < length l
  within [] i h = absurd (false≢true h)
  within (x ∷ l) zero h = omega arith
  within (x ∷ l) (suc i) h = let k : i < length l = within l i h in omega arith

  -- what the slot holds, with the value in hand
  pub filled : (o : Option A) (d : A) → is_some o ≡ true → o ≡ Some (unwrap_or o d)
  filled None d h = absurd (false≢true h)
  filled (Some x) d h = refl

  -- what holds of the new value, if it stands here, and of what stood here, holds of what stands here now
  pub at_put : (P : Option A → Type 0) (l : List (Option A)) (i j : ℕ) (v : Option A) → (i ≡ j → P v) → P (get_or l j None) → P (get_or (set l i v) j None)
  at_put P [] zero zero v here there = there
  at_put P [] zero (suc j) v here there = there
  at_put P [] (suc i) zero v here there = there
  at_put P [] (suc i) (suc j) v here there = there
  at_put P (x ∷ l) zero zero v here there = here refl
  at_put P (x ∷ l) zero (suc j) v here there = there
  at_put P (x ∷ l) (suc i) zero v here there = there
  at_put P (x ∷ l) (suc i) (suc j) v here there = at_put P l i j v (λ e. here (ap suc e)) there

  -- the same, with what the places say: for a write within the table
  pub at_place : (P : Option A → Type 0) (l : List (Option A)) (i j : ℕ) (v : Option A) → i < length l → (i ≡ j → P v) → ((i ≡ j → ⊥) → P (get_or l j None)) → P (get_or (set l i v) j None)
  at_place P [] i j v h here there = absurd (not-suc-le-zero h)
  at_place P (x ∷ l) zero zero v h here there = here refl
  at_place P (x ∷ l) zero (suc j) v h here there = there (λ e. omega arith)
  at_place P (x ∷ l) (suc i) zero v h here there = there (λ e. omega arith)
  at_place P (x ∷ l) (suc i) (suc j) v h here there = at_place P l i j v (le_of_suc-le-suc h) (λ e. here (ap suc e)) (λ ne. there (λ e. ne (omega arith)))

  -- what a slot holds after each was changed by f
  pub at_map : (P : Option A → Option A → Type 0) (f : Option A → Option A) (l : List (Option A)) (j : ℕ) → f None ≡ None → ((o : Option A) → P o (f o)) → P (get_or l j None) (get_or (map f l) j None)
  at_map P f [] j e h = subst (P None) e (h None)
  at_map P f (x ∷ l) zero e h = h x
  at_map P f (x ∷ l) (suc j) e h = at_map P f l j e h

  -- what stands after a slot was emptied stood before, elsewhere
  pub gone : (l : List (Option A)) (i j : ℕ) → is_some (get_or (set l i None) j None) ≡ true → (i ≡ j → ⊥) × (is_some (get_or l j None) ≡ true)
  gone [] zero zero h = absurd (false≢true h)
  gone [] zero (suc j) h = absurd (false≢true h)
  gone [] (suc i) zero h = absurd (false≢true h)
  gone [] (suc i) (suc j) h = absurd (false≢true h)
  gone (x ∷ l) zero zero h = absurd (false≢true h)
  gone (x ∷ l) zero (suc j) h = (λ e. omega arith, h)
  gone (x ∷ l) (suc i) zero h = (λ e. omega arith, h)
  gone (x ∷ l) (suc i) (suc j) h = let k = gone l i j h in (λ e. k.0 (omega arith), k.1)
