-- What a chain over the numbers below a bound, or over the slots of a table, finds out. Assumes nothing.
use Rattle.std.proofs.Common.{◌≡◌, ℕ, zero, suc, ◌<◌, ◌≤◌, Bool, true, false, cond, List, [], ◌∷◌, length, get_or, is_some, Some, None, Decides, Option, MatchOption, unwrap_or, refl, sym, ap, ◌∙◌, subst, inl, inr, arith}
use Rattle.std.specs.declared.ops.Range.{Range}
use Rattle.std.proofs.lemmas.Iterator.{YieldsList, cases_from_all, cases_from_any}
use Rattle.std.proofs.lemmas.Bool.{true≢false, false≢true, cases_lt}
use Rattle.std.proofs.lemmas.List.FromFn.{length-range_with_len, get_or-range_with_len}
use Rattle.std.proofs.lemmas.Iterator.Adapters.{YieldsList-from_flatten}
use Rattle.std.proofs.lemmas.Iterator.Consumers.{YieldsList-from_shown}
use Rattle.std.proofs.lemmas.Iterator.{YieldsList-from_slice, YieldsList-from_range}
use Rattle.std.proofs.iter.Yields.{fronts, nat_range_steps}
use Rattle.std.specs.Array.Iter.{array_into_iter_items}
use Rattle.std.specs.Bool.{MatchBool}
use Rattle.std.specs.Fn.{Called}
use Rattle.std.specs.Iterator.{YieldsThen}
use Rattle.std.specs.Iterator.Adapters.{option_iter_item, option_iter_done, option_iter_steps, flatten_source, flatten_front, flatten_back, flatten_done, flatten_steps}
use Rattle.std.specs.List.{FoldsTo, flat_map, range_with_len}
use Rattle.std.specs.Option.{option_to_list}
use Rattle.std.specs.Slice.Iter.{iter_rest}
use Rattle.tables.proofs.Puts.{within}
use denote.Param.Members.{Mut}
use denote.Ref.{Bor}

-- r decides P where it says which of two facts holds, P follows from the one, and contradicts the other
pub decides : {P Y N : Type 0} (r : Bool) → MatchBool r Y N → (Y → P) → (N → P → ⊥) → Decides r P
decides true m sure off = ((λ _. sure m), λ _. refl)
decides false m sure off = ((λ e. absurd (false≢true e)), λ p. absurd (off m p))

nth_number : (n k : ℕ) → k < n → get_or (range_with_len 0 n) k 0 ≡ k
nth_number n k h = get_or-range_with_len 0 n k 0 h ∙ omega arith

-- `(0..n)` gives the numbers below n
pub YieldsList-below : {s : Range ℕ} (n : ℕ) → s ≡ record { start = 0; end = n } → YieldsList nat_range_steps (λ x. x) s (range_with_len 0 n)
YieldsList-below n e = YieldsList-from_range 0 n n e (omega arith)

-- a chain that gives the numbers below n
module _ {S A F : Type 0} {steps : S → Option A → S → Type 0} {v : A → ℕ} {g : Mut F (A × Unit {0}) Bool} {s : S} (u : S) (f : F) (n : ℕ) (r : Bool) (P : ℕ → Type 0) where
  -- do all of them have P? Those from n on have it
  pub Decides-all_numbers : (xs : List A) × (o : Option A) × (j : F) × YieldsThen steps s xs o u × FoldsTo (λ p x q. Called g p (x, tt) true q) f xs j × MatchOption o (r ≡ true) (λ x. (r ≡ false) × ((h : F) × Called g j (x, tt) false h))
      → YieldsList steps v s (range_with_len 0 n)
      → ((x : A) (q : F) → Called g f (x, tt) true q → (q ≡ f) × P (v x)) → ((x : A) (q : F) → Called g f (x, tt) false q → P (v x) → ⊥)
      → ((k : ℕ) → n ≤ k → P k) → Decides r ((k : ℕ) → P k)
  Decides-all_numbers ran gives has_it has_not past =
      let size : length (range_with_len 0 n) ≡ n = length-range_with_len 0 n in
      decides r (cases_from_all u f r P (λ k. P k → ⊥) ran gives has_it has_not)
      (λ all k. elim (cases_lt k n) [ inl h ↦ subst P (nth_number n k h) (all k 0 (omega arith) (omega arith)) | inr h ↦ past k h ])
      (λ some all. some.2 0 (all _))

-- `array.into_iter()` gives the array's items
pub YieldsList-from_array : {A : Type 0} {n : ℕ} {s : _} (l : List A) → array_into_iter_items {X = A} {n = n} s ≡ l
    → YieldsList (λ s r t. MatchOption r ((length (array_into_iter_items {X = A} {n = n} s) ≡ 0) × (t ≡ s)) (λ x. array_into_iter_items s ≡ x ∷ array_into_iter_items t)) (λ x. x) s l
YieldsList-from_array {s = s} l e = subst (YieldsList _ (λ x. x) s) e (YieldsList-from_shown _ (λ x. x) array_into_iter_items (λ s t p. p.0) (λ s x t p. p) s)

-- what a slot gives, one after another: what it holds, or nothing
module _ {A : Type 0} where
  none_left : (s : _) (t : _) → option_iter_steps {A = A} s None t → length (cond (option_iter_done {T = A} s) [] (option_to_list (option_iter_item s))) ≡ 0
  none_left s t p = by (option_iter_done s) (option_iter_item s) p.1
    where
      by : (d : Bool) (o : Option A) → MatchBool d (◌≡◌ {A = Option (Bor A)} None None) (None ≡ o) → length (cond d [] (option_to_list o)) ≡ 0
      by true o e = refl
      by false None e = refl
      by false (Some x) e = absurd (true≢false (sym (ap is_some e)))

  one_left : (s : _) (x : Bor A) (t : _) → option_iter_steps {A = A} s (Some x) t → cond (option_iter_done {T = A} s) [] (option_to_list (option_iter_item s)) ≡ x.now ∷ cond (option_iter_done {T = A} t) [] (option_to_list (option_iter_item t))
  one_left s x t p = by (option_iter_done s) (option_iter_item s) p.1 ∙ ap (λ b. x.now ∷ cond b [] (option_to_list (option_iter_item t))) (sym p.0)
    where
      by : (d : Bool) (o : Option A) → MatchBool d (◌≡◌ {A = Option (Bor A)} (Some x) None) (Some x.now ≡ o) → cond d [] (option_to_list o) ≡ x.now ∷ []
      by true o e = absurd (true≢false (ap is_some e))
      by false o e = sym (ap option_to_list e)

  slot_gives : (o : Option A) (j : _) → option_iter_item {T = A} j ≡ o → option_iter_done {T = A} j ≡ false → YieldsList (option_iter_steps {A = A}) (λ y. y.now) j (option_to_list o)
  slot_gives o j e d = subst (YieldsList option_iter_steps (λ y. y.now) j) (ap (λ b. cond b [] (option_to_list (option_iter_item j))) d ∙ ap option_to_list e) (YieldsList-from_shown option_iter_steps (λ y. y.now) (λ s. cond (option_iter_done {T = A} s) [] (option_to_list (option_iter_item s))) none_left one_left j)

  -- `table.iter().flatten()` gives what the slots of the table hold
  pub YieldsList-from_slots : {s : _} (becomes : Bor (Option A) → _ → Type 0) (l : List (Option A)) → ((x : Bor (Option A)) (j : _) → becomes x j → (option_iter_item {T = A} j ≡ x.now) × (option_iter_done {T = A} j ≡ false))
      → iter_rest (flatten_source s) ≡ l → flatten_front s ≡ None → flatten_back s ≡ None → flatten_done s ≡ false
      → YieldsList (flatten_steps fronts becomes (option_iter_steps {A = A})) (λ y. y.now) s (flat_map option_to_list l)
  YieldsList-from_slots becomes l opens rest front back done =
      YieldsList-from_flatten becomes option_iter_steps (λ y. y.now) option_to_list (λ x j b. let o = opens x j b in slot_gives x.now j o.0 o.1) (YieldsList-from_slice l rest) front back done

module _ {A : Type 0} (d : A) where
  -- what a slot holds is among what the slots hold
  record Among (l : List (Option A)) (k : ℕ) : Type 0 where
    at : ℕ
    near : at < length (flat_map option_to_list l)
    is : get_or (flat_map option_to_list l) at d ≡ unwrap_or (get_or l k None) d

  among : (l : List (Option A)) (k : ℕ) → is_some (get_or l k None) ≡ true → Among l k
  among [] k h = absurd (false≢true h)
  among (None ∷ l) zero h = absurd (false≢true h)
  among (Some x ∷ l) zero h = record { at = 0; near = omega arith; is = refl }
  among (None ∷ l) (suc k) h = let a = among l k h in record { at = a.at; near = a.near; is = a.is }
  among (Some x ∷ l) (suc k) h = let a = among l k h in record { at = suc a.at; near = (let n = a.near in omega arith); is = a.is }

  -- and what the slots hold is what some slot holds
  record Slot (l : List (Option A)) (i : ℕ) : Type 0 where
    number : ℕ
    full : is_some (get_or l number None) ≡ true
    is : get_or (flat_map option_to_list l) i d ≡ unwrap_or (get_or l number None) d

  slot_of : (l : List (Option A)) (i : ℕ) → i < length (flat_map option_to_list l) → Slot l i
  slot_of [] i h = absurd (omega arith)
  slot_of (None ∷ l) i h = let s = slot_of l i h in record { number = suc s.number; full = s.full; is = s.is }
  slot_of (Some x ∷ l) zero h = record { number = 0; full = refl; is = refl }
  slot_of (Some x ∷ l) (suc i) h = let s = slot_of l i (omega arith) in record { number = suc s.number; full = s.full; is = s.is }

-- a chain that gives what the slots of a table hold
module _ {S X A F : Type 0} {steps : S → Option X → S → Type 0} {v : X → A} {g : Mut F (X × Unit {0}) Bool} {s : S} (u : S) (f : F) (l : List (Option A)) (d : A) (r : Bool) (P : A → Type 0) where
  -- has all that they hold P?
  pub Decides-all_slots : (xs : List X) × (o : Option X) × (j : F) × YieldsThen steps s xs o u × FoldsTo (λ p x q. Called g p (x, tt) true q) f xs j × MatchOption o (r ≡ true) (λ x. (r ≡ false) × ((h : F) × Called g j (x, tt) false h))
      → YieldsList steps v s (flat_map option_to_list l)
      → ((x : X) (q : F) → Called g f (x, tt) true q → (q ≡ f) × P (v x)) → ((x : X) (q : F) → Called g f (x, tt) false q → P (v x) → ⊥)
      → Decides r ((k : ℕ) → is_some (get_or l k None) ≡ true → P (unwrap_or (get_or l k None) d))
  Decides-all_slots ran gives has_it has_not =
      decides r (cases_from_all u f r P (λ x. P x → ⊥) ran gives has_it has_not)
      (λ all k full. let a = among d l k full in subst P a.is (all a.at d (omega arith) a.near))
      (λ some all. let a = slot_of d l some.0 some.1 in some.2 d (subst P (sym a.is) (all a.number a.full)))

  -- has something that they hold P?
  pub Decides-any_slot : (xs : List X) × (o : Option X) × (j : F) × YieldsThen steps s xs o u × FoldsTo (λ p x q. Called g p (x, tt) false q) f xs j × MatchOption o (r ≡ false) (λ x. (r ≡ true) × ((h : F) × Called g j (x, tt) true h))
      → YieldsList steps v s (flat_map option_to_list l)
      → ((x : X) (q : F) → Called g f (x, tt) true q → P (v x)) → ((x : X) (q : F) → Called g f (x, tt) false q → (q ≡ f) × (P (v x) → ⊥))
      → Decides r ((k : ℕ) × (is_some (get_or l k None) ≡ true) × P (unwrap_or (get_or l k None) d))
  Decides-any_slot ran gives has_it has_not =
      decides r (cases_from_any u f r P (λ x. P x → ⊥) ran gives has_it has_not)
      (λ some. let a = slot_of d l some.0 some.1 in (a.number, a.full, subst P a.is (some.2 d)))
      (λ none some. let a = among d l some.0 some.1 in none a.at d (omega arith) a.near (subst P (sym a.is) some.2))

-- past the end of a table no slot holds something
pub empty_past : {A : Type 0} (l : List (Option A)) (n k : ℕ) → length l ≤ n → n ≤ k → is_some (get_or l k None) ≡ true → ⊥
empty_past l n k end far full = let near : k < length l = within l k full in omega arith
