-- The loops over the rights and over the slots of a table.
use Rattle.std.proofs.Common.{◌≡◌, ℕ, suc, ◌+◌, ◌%◌, ◌<◌, true, false, cond, eqb, List, [], ◌∷◌, ◌++◌, length, get_or, take, Some, None, Option, sym, refl, ap, ◌∙◌, append_assoc, append-nil, add-zero, arith}
use Rattle.std.specs.List.{flat_map}
use Rattle.std.proofs.lemmas.List.{take_more, length-take-le}
use Rattle.records.specs.declared.forms.Record.{Record}
use Rattle.records.specs.Records.{field, encode}
use Rattle.records.specs.Rights.{bytes_of}
use Rattle.roll.specs.Slots.{slots}

bytes_append : (xs ys : List ℕ) → bytes_of (xs ++ ys) ≡ bytes_of xs ++ bytes_of ys
bytes_append [] ys = refl
bytes_append (x ∷ xs) ys =
    elim (eqb x 0) as (λ z. cond z (bytes_of (xs ++ ys)) (x ∷ bytes_of (xs ++ ys)) ≡ cond z (bytes_of xs) (x ∷ bytes_of xs) ++ bytes_of ys) [
      | true ↦ bytes_append xs ys
      | false ↦ ap (λ l. x ∷ l) (bytes_append xs ys)
    ]

pub bytes_more : (xs : List ℕ) (i : ℕ) → i < length xs → get_or xs i 0 < 256 → bytes_of (take i xs) ++ field 1 (get_or xs i 0) ≡ bytes_of (take (i + 1) xs)
bytes_more xs i h small =
    let x = get_or xs i 0 in
    let e : x % 256 ≡ x = omega arith in
    ap (λ y. bytes_of (take i xs) ++ cond (eqb x 0) [] (y ∷ [])) e ∙ sym (ap bytes_of (take_more xs i 0 h) ∙ bytes_append (take i xs) (x ∷ []))

pub joined_append : {X : Type 0} (f : X → List ℕ) (xs ys : List X) → flat_map f (xs ++ ys) ≡ flat_map f xs ++ flat_map f ys
joined_append f [] ys = refl
joined_append f (x ∷ xs) ys = ap (λ l. f x ++ l) (joined_append f xs ys) ∙ sym (append_assoc (f x) (flat_map f xs) (flat_map f ys))

-- the bytes of the first i slots
abbrev pub slot_bytes : {A : Type 0} → (ℕ → A → Record) → List (Option A) → List ℕ
slot_bytes r xs = flat_map encode (slots r 0 xs)

module _ {A : Type 0} (r : ℕ → A → Record) where
  slots_append : (n : ℕ) (xs ys : List (Option A)) → slots r n (xs ++ ys) ≡ slots r n xs ++ slots r (n + length xs) ys
  slots_append n [] ys = ap (λ k. slots r k ys) (sym (add-zero n))
  slots_append n (None ∷ xs) ys = slots_append (suc n) xs ys ∙ ap (λ k. slots r (suc n) xs ++ slots r k ys) (omega arith)
  slots_append n (Some x ∷ xs) ys = ap (λ l. r n x ∷ l) (slots_append (suc n) xs ys ∙ ap (λ k. slots r (suc n) xs ++ slots r k ys) (omega arith))

  slots_more : (xs : List (Option A)) (i : ℕ) → i < length xs → slot_bytes r (take (i + 1) xs) ≡ slot_bytes r (take i xs) ++ flat_map encode (slots r i (get_or xs i None ∷ []))
  slots_more xs i h =
      let o = get_or xs i None in
      let l : 0 + length (take i xs) ≡ i = let t = length-take-le i xs (omega arith) in omega arith in
      let e = slots_append 0 (take i xs) (o ∷ []) ∙ ap (λ k. slots r 0 (take i xs) ++ slots r k (o ∷ [])) l in
      ap (slot_bytes r) (take_more xs i None h) ∙ ap (flat_map encode) e ∙ joined_append encode (slots r 0 (take i xs)) (slots r i (o ∷ []))

  pub some_more : (xs : List (Option A)) (i : ℕ) (x : A) → i < length xs → get_or xs i None ≡ Some x → slot_bytes r (take i xs) ++ encode (r i x) ≡ slot_bytes r (take (i + 1) xs)
  some_more xs i x h e = sym (slots_more xs i h ∙ ap (λ o. slot_bytes r (take i xs) ++ flat_map encode (slots r i (o ∷ []))) e ∙ ap (λ l. slot_bytes r (take i xs) ++ l) (append-nil (encode (r i x))))

  pub none_more : (xs : List (Option A)) (i : ℕ) → i < length xs → get_or xs i None ≡ None → slot_bytes r (take i xs) ≡ slot_bytes r (take (i + 1) xs)
  none_more xs i h e = sym (slots_more xs i h ∙ ap (λ o. slot_bytes r (take i xs) ++ flat_map encode (slots r i (o ∷ []))) e ∙ append-nil (slot_bytes r (take i xs)))
