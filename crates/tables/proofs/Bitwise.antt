-- What is in a set, and in a set with one more or one less. Assumes nothing.
use Rattle.std.proofs.Common.{◌≡◌, ℕ, zero, suc, ◌+◌, ◌-◌, ◌*◌, ◌/◌, ◌%◌, ◌^◌, ◌<◌, Bool, true, false, cond, not, ◌&&◌, ◌||◌, eqb, ltb, ◌⊎◌, sym, refl, ap, ◌∙◌, inl, inr, pow-suc, arith}
use native.Mathlib.Nat.{div-eq_of_lt}
use lib.Bits.{bit_and, bit_or, bit_xor, and_shr, and_mod}
use Rattle.std.proofs.lemmas.Nat.{and_le_l, and_mask, or_shr, or_mod, xor_shr, xor_mod, mod_below, pow-add, pow_pos, pow_below, shl-shr}
use Rattle.std.proofs.lemmas.Bool.{false≢true, and_parts, cases_lt, cases_eq, cases_order, cases_Bool, cond-true, cond-false, eq-eqb, ne_eqb}
use Rattle.std.proofs.lemmas.Nat.Bits.{bit_at-trailing_zeros, bit_at-suc}
use Rattle.std.specs.Int.{bit_at, trailing_zeros, w16}
use Rattle.std.specs.Int.Count.{trailing_of_zero}
use Rattle.tables.specs.Sets.{has, with_element, without_element, inserted, reach, Taken}

-- the code's test of a bit
pub bit_test : (n k : ℕ) → eqb (bit_and (n / 2 ^ k) 1) 1 ≡ has n k
bit_test n k = ap (λ x. eqb x 1) (and_mask (n / 2 ^ k) 1)

-- what is past the width of a number is not in it
pub has_past : (n k : ℕ) → n < 2 ^ k → has n k ≡ false
has_past n k h = ap (λ x. eqb (x % 2) 1) (div-eq_of_lt h)

-- nothing is in the empty set
pub has_none : (k : ℕ) → has 0 k ≡ false
has_none k = has_past 0 k (pow_pos k)

two : (x : ℕ) → x < 2 → (x ≡ 0) ⊎ (x ≡ 1)
two x h = elim (cases_lt x 1) [ inl k ↦ inl (omega arith) | inr k ↦ inr (omega arith) ]

-- one of the two, and not both
abbrev differ : Bool → Bool → Bool
differ x y = cond x (not y) y

or_two : (x y : ℕ) → x < 2 → y < 2 → eqb (bit_or x y) 1 ≡ (eqb x 1 || eqb y 1)
or_two x y h k =
    elim (two x h) [
      | inl e ↦ elim (two y k) [ inl f ↦ rw (e, f) refl | inr f ↦ rw (e, f) refl ]
      | inr e ↦ elim (two y k) [ inl f ↦ rw (e, f) refl | inr f ↦ rw (e, f) refl ]
    ]

xor_two : (x y : ℕ) → x < 2 → y < 2 → eqb (bit_xor x y) 1 ≡ differ (eqb x 1) (eqb y 1)
xor_two x y h k =
    elim (two x h) [
      | inl e ↦ elim (two y k) [ inl f ↦ rw (e, f) refl | inr f ↦ rw (e, f) refl ]
      | inr e ↦ elim (two y k) [ inl f ↦ rw (e, f) refl | inr f ↦ rw (e, f) refl ]
    ]

and_two : (x y : ℕ) → x < 2 → y < 2 → eqb (bit_and x y) 1 ≡ (eqb x 1 && eqb y 1)
and_two x y h k =
    elim (two x h) [
      | inl e ↦ rw e refl
      | inr e ↦ elim (two y k) [ inl f ↦ rw (e, f) refl | inr f ↦ rw (e, f) refl ]
    ]

-- what is in the meet is in both sets, and the other way round is in their meet
pub has_and : (a b k : ℕ) → has (bit_and a b) k ≡ (has a k && has b k)
has_and a b k =
    ap (λ x. eqb (x % 2) 1) (and_shr a b k) ∙ ap (λ x. eqb x 1) (and_mod (a / 2 ^ k) (b / 2 ^ k) 1)
    ∙ and_two (a / 2 ^ k % 2) (b / 2 ^ k % 2) (mod_below _ 2 (omega arith)) (mod_below _ 2 (omega arith))

has_or : (a b k : ℕ) → has (bit_or a b) k ≡ (has a k || has b k)
has_or a b k =
    ap (λ x. eqb (x % 2) 1) (or_shr a b k) ∙ ap (λ x. eqb x 1) (or_mod (a / 2 ^ k) (b / 2 ^ k) 1)
    ∙ or_two (a / 2 ^ k % 2) (b / 2 ^ k % 2) (mod_below _ 2 (omega arith)) (mod_below _ 2 (omega arith))

has_xor : (a b k : ℕ) → has (bit_xor a b) k ≡ differ (has a k) (has b k)
has_xor a b k =
    ap (λ x. eqb (x % 2) 1) (xor_shr a b k) ∙ ap (λ x. eqb x 1) (xor_mod (a / 2 ^ k) (b / 2 ^ k) 1)
    ∙ xor_two (a / 2 ^ k % 2) (b / 2 ^ k % 2) (mod_below _ 2 (omega arith)) (mod_below _ 2 (omega arith))

at_self : (k : ℕ) → has (2 ^ k) k ≡ true
at_self k =
    let e : 1 * 2 ^ k ≡ 2 ^ k = omega arith in
    let q : 2 ^ k / 2 ^ k ≡ 1 = ap (λ x. x / 2 ^ k) (sym e) ∙ shl-shr 1 k in
    ap (λ x. eqb (x % 2) 1) q

diff : (k j : ℕ) → j < k → k ≡ suc (k - j - 1) + j
diff k j h = omega arith

above : (j d : ℕ) → has (2 ^ (suc d + j)) j ≡ false
above j d =
    let q : 2 ^ (suc d + j) / 2 ^ j ≡ 2 ^ suc d = ap (λ x. x / 2 ^ j) (pow-add 2 (suc d) j) ∙ shl-shr (2 ^ suc d) j in
    let e : 2 ^ suc d ≡ 2 ^ d * 2 = pow-suc 2 d in
    let z : 2 ^ (suc d + j) / 2 ^ j % 2 ≡ 0 = omega arith in
    ap (λ x. eqb x 1) z

-- 2 ^ k is the set of k alone
pub has_one : (k j : ℕ) → has (2 ^ k) j ≡ eqb j k
has_one k j = elim (cases_order j k) [
  | inl e ↦ ap (λ x. has (2 ^ k) x) e ∙ at_self k ∙ sym (eq-eqb j k e)
  | inr o ↦ elim o [
    | inl h ↦ ap (λ x. has (2 ^ x) j) (diff k j h) ∙ above j (k - j - 1) ∙ sym (ne_eqb j k (λ e. omega arith))
    | inr h ↦ has_past (2 ^ k) j (pow_below k j h) ∙ sym (ne_eqb j k (λ e. omega arith))
  ]
]

or_swap : (x y : Bool) → (x || y) ≡ (y || x)
or_swap true true = refl
or_swap true false = refl
or_swap false true = refl
or_swap false false = refl

-- what is in a set with one more
pub has_with : (n k j : ℕ) → has (with_element n k) j ≡ (eqb j k || has n j)
has_with n k j = has_or n (2 ^ k) j ∙ ap (λ x. has n j || x) (has_one k j) ∙ or_swap (has n j) (eqb j k)

-- what is in a set of objects with one more
pub has_inserted : (n k j : ℕ) → has (inserted n k) j ≡ ((ltb k 64 && eqb j k) || has n j)
has_inserted n k j = elim (cases_Bool (ltb k 64)) [
  | inl h ↦ ap (λ x. has x j) (cond-true (ltb k 64) (with_element n k) n h) ∙ has_with n k j ∙ sym (ap (λ b. (b && eqb j k) || has n j) h)
  | inr h ↦ ap (λ x. has x j) (cond-false (ltb k 64) (with_element n k) n h) ∙ sym (ap (λ b. (b && eqb j k) || has n j) h)
]

differ_in : (n k j : ℕ) → has n k ≡ true → differ (has n j) (eqb j k) ≡ (not (eqb j k) && has n j)
differ_in n k j h = elim (cases_eq j k) [
  | inl e ↦ rw (eq-eqb j k e, ap (λ x. has n x) e ∙ h) refl
  | inr ne ↦ rw (ne_eqb j k ne) (differ_no (has n j))
]
  where
    differ_no : (x : Bool) → differ x false ≡ x
    differ_no true = refl
    differ_no false = refl

same_out : (n k j : ℕ) → has n k ≡ false → has n j ≡ (not (eqb j k) && has n j)
same_out n k j h = elim (cases_eq j k) [
  | inl e ↦ ap (λ x. has n x) e ∙ h ∙ sym (ap (λ x. not x && has n j) (eq-eqb j k e))
  | inr ne ↦ sym (ap (λ x. not x && has n j) (ne_eqb j k ne))
]

-- what is in a set with one less
pub has_without : (n k j : ℕ) → has (without_element n k) j ≡ (not (eqb j k) && has n j)
has_without n k j = elim (cases_Bool (has n k)) [
  | inl h ↦ ap (λ x. has x j) (cond-true (has n k) (bit_xor n (2 ^ k)) n h) ∙ has_xor n (2 ^ k) j ∙ ap (differ (has n j)) (has_one k j) ∙ differ_in n k j h
  | inr h ↦ ap (λ x. has x j) (cond-false (has n k) (bit_xor n (2 ^ k)) n h) ∙ same_out n k j h
]

-- a place further in, of half the number
has_further : (n j : ℕ) → has n (suc j) ≡ has (n / 2) j
has_further n j = ap (λ x. eqb x 1) (bit_at-suc n j)

and_no : (x : Bool) → (x && false) ≡ false
and_no true = refl
and_no false = refl

and_same : (x : Bool) → (x && x) ≡ x
and_same true = refl
and_same false = refl

eqb_further : (j g : ℕ) → eqb (suc j) (suc g) ≡ eqb j g
eqb_further j g = elim (cases_eq j g) [
  | inl e ↦ eq-eqb (suc j) (suc g) (ap suc e) ∙ sym (eq-eqb j g e)
  | inr ne ↦ ne_eqb (suc j) (suc g) (λ e. ne (omega (arith, e))) ∙ sym (ne_eqb j g ne)
]

-- a number and the one before it have in common all but the lowest, which stands at g
all_but : (g n j : ℕ) → 0 < n → bit_at n g ≡ 1 → ((i : ℕ) → i < g → bit_at n i ≡ 0) → (has n j && has (n - 1) j) ≡ (not (eqb j g) && has n j)
all_but zero n zero some on low =
    let e : (n - 1) / 1 % 2 ≡ 0 = omega (arith, some, on) in
    ap (λ x. has n 0 && eqb x 1) e ∙ and_no (has n 0)
all_but zero n (suc j) some on low =
    let half : (n - 1) / 2 ≡ n / 2 = omega (arith, some, on) in
    ap (λ b. has n (suc j) && b) (has_further (n - 1) j ∙ ap (λ x. has x j) half ∙ sym (has_further n j)) ∙ and_same (has n (suc j))
    ∙ sym (ap (λ b. not b && has n (suc j)) (ne_eqb (suc j) 0 (λ e. omega (arith, e))))
all_but (suc g) n zero some on low =
    let z : has n 0 ≡ false = ap (λ x. eqb x 1) (low 0 (omega arith)) in
    ap (λ b. b && has (n - 1) 0) z ∙ sym (and_no (not (eqb 0 (suc g)))) ∙ sym (ap (λ b. not (eqb 0 (suc g)) && b) z)
all_but (suc g) n (suc j) some on low =
    let even : bit_at n 0 ≡ 0 = low 0 (omega arith) in
    let half : (n - 1) / 2 ≡ n / 2 - 1 = omega (arith, some, even) in
    let more : 0 < n / 2 = omega (arith, some, even) in
    ap (λ b. b && has (n - 1) (suc j)) (has_further n j) ∙ ap (λ b. has (n / 2) j && b) (has_further (n - 1) j ∙ ap (λ x. has x j) half)
    ∙ all_but g (n / 2) j more (sym (bit_at-suc n g) ∙ on) (λ i lt. sym (bit_at-suc n i) ∙ low (suc i) (omega (arith, lt)))
    ∙ ap (λ b. not b && has (n / 2) j) (sym (eqb_further j g)) ∙ sym (ap (λ b. not (eqb (suc j) (suc g)) && b) (has_further n j))

-- the lowest of a set that is not empty is taken
module _ (n : ℕ) (some : 0 < n) (fits : n < 2 ^ 16) where
  abbrev low_of : ℕ
  low_of = trailing_zeros w16 n

  abbrev rest_of : ℕ
  rest_of = bit_and n (n - 1)

  low : (low_of < 16) × (bit_at n low_of ≡ 1) × ((i : ℕ) → i < low_of → bit_at n i ≡ 0)
  low = bit_at-trailing_zeros w16 n some fits

  others : (j : ℕ) → has rest_of j ≡ (not (eqb j low_of) && has n j)
  others j = has_and n (n - 1) j ∙ all_but low_of n j some low.1 low.2

  goes_on : (rest_of ≡ 0) ⊎ (rest_of ≡ 0 → ⊥) → reach rest_of < reach n
  goes_on (inl none) = let e : trailing_zeros w16 rest_of ≡ 16 = ap (trailing_zeros w16) none ∙ trailing_of_zero 16 in let lt = low.0 in omega (arith, e, lt)
  goes_on (inr more) =
      let small : rest_of < 2 ^ 16 = let h = and_le_l n (n - 1) in omega (arith, h, fits) in
      let next = bit_at-trailing_zeros w16 rest_of (omega (arith, more)) small in
      let j = trailing_zeros w16 rest_of in
      let on : has rest_of j ≡ true = ap (λ x. eqb x 1) next.1 in
      let p = and_parts (not (eqb j low_of)) (has n j) (sym (others j) ∙ on) in
      let other : j ≡ low_of → ⊥ = λ e. false≢true (sym (ap not (eq-eqb j low_of e)) ∙ p.0) in
      let above : j < low_of → ⊥ = λ lt. false≢true (sym (ap (λ x. eqb x 1) (low.2 j lt)) ∙ p.1) in
      let a = low.0 in
      let b = next.0 in
      omega (arith, other, above, a, b)

  pub lowest : Taken n rest_of low_of
  lowest = record { member = ap (λ x. eqb x 1) low.1; left = others; later = goes_on (cases_eq rest_of 0) }
