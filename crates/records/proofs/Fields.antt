-- Fields that are there or not: one by one, and one after another.
use Rattle.std.proofs.Common.{◌≡◌, ℕ, zero, suc, ◌+◌, ◌*◌, ◌/◌, ◌%◌, ◌^◌, ◌<◌, ◌≤◌, Bool, true, false, cond, not, eqb, List, [], ◌++◌, length, sym, refl, ap, ◌∙◌, subst, append_assoc, pow-suc, arith, length-append, eq-eqb}
use lib.Bits.{bit_and}
use Rattle.std.proofs.lemmas.Bool.{ne_eqb, not-false, eqb-true}
use Rattle.std.proofs.lemmas.Nat.{div_below, div-mul-add}
use Rattle.byte_cursor.specs.declared.cursors.Cursor.{Cursor}
use Rattle.byte_cursor.specs.Bytes.{le, field_if, left, Took, Field}
use Rattle.records.specs.Records.{field, has}

pub length_le : (n v : ℕ) → length (le n v) ≡ n
length_le zero v = refl
length_le (suc n) v = ap suc (length_le n (v / 256))

pub le_unique : (n v w : ℕ) (r s : List ℕ) → v < 256 ^ n → w < 256 ^ n → le n v ++ r ≡ le n w ++ s → (v ≡ w) × (r ≡ s)
le_unique zero v w r s hv hw e = (omega arith, e)
le_unique (suc n) v w r s hv hw e =
    let p : 256 ^ suc n ≡ 256 ^ n * 256 = pow-suc 256 n in
    let hd : v % 256 ≡ w % 256 = cc in
    let tl : le n (v / 256) ++ r ≡ le n (w / 256) ++ s = cc in
    let rest = le_unique n (v / 256) (w / 256) r s (div_below v 256 (256 ^ n) (omega arith) (omega arith)) (div_below w 256 (256 ^ n) (omega arith) (omega arith)) tl in
    let q = rest.0 in
    (omega arith, rest.1)

pub unique : (n : ℕ) (t : Bool) (v w : ℕ) (r s : List ℕ) → v < 256 ^ n → w < 256 ^ n → (t ≡ false → v ≡ 0) → (t ≡ false → w ≡ 0) → field_if n t v ++ r ≡ field_if n t w ++ s → (v ≡ w) × (r ≡ s)
unique n true v w r s hv hw zv zw e = le_unique n v w r s hv hw e
unique n false v w r s hv hw zv zw e = (zv refl ∙ sym (zw refl), e)

pub length_field_if : (n : ℕ) (t : Bool) (v : ℕ) → length (field_if n t v) ≡ cond t n 0
length_field_if n true v = length_le n v
length_field_if n false v = refl

field_turn : (e : Bool) (xs : List ℕ) → cond (not e) xs [] ≡ cond e [] xs
field_turn true xs = refl
field_turn false xs = refl

-- the bit of a map tells whether the field is zero
pub bit_tells : (bits w : ℕ) (e : Bool) → 0 < w → bit_and bits w ≡ (bits / w % 2) * w → bits / w % 2 ≡ cond e 0 1 → has bits w ≡ not e
bit_tells bits w true h is q = ap not (eq-eqb _ 0 (is ∙ ap (λ k. k * w) q ∙ omega arith))
bit_tells bits w false h is q =
    let one : bit_and bits w ≡ w = is ∙ ap (λ k. k * w) q ∙ omega arith in
    ap not (ne_eqb _ 0 (λ z. omega (arith, one)))

-- the bit of weight w of a number in binary
pub bit_at : (n w low b high : ℕ) → low < w → b ≤ 1 → n ≡ (b + 2 * high) * w + low → n / w % 2 ≡ b
bit_at n w low b high l o is =
    let q : n / w ≡ b + 2 * high = ap (λ k. k / w) is ∙ div-mul-add (b + 2 * high) w low l in
    omega arith

pub bit_parts : (w : ℕ) (e : Bool) → (cond e 0 w ≡ w * cond e 0 1) × (cond e 0 1 ≤ 1)
bit_parts w true = (omega arith, omega arith)
bit_parts w false = (omega arith, omega arith)

pub absent : (t : Bool) (v : ℕ) → t ≡ not (eqb v 0) → t ≡ false → v ≡ 0
absent t v f z = eqb-true v 0 (not-false (eqb v 0) (sym f ∙ z))

pub took_more : {a b c : Cursor} (xs ys : List ℕ) → Took a b xs → Took b c ys → Took a c (xs ++ ys)
took_more {a} {b} {c} xs ys p q = record {
  bytes = q.bytes ∙ p.bytes;
  place = let e = length-append xs ys in omega (arith, p.place, q.place);
  split = p.split ∙ ap (λ l. xs ++ l) q.split ∙ sym (append_assoc xs ys (left c));
}

module _ {n : ℕ} {t : Bool} {a b : Cursor} {v : ℕ} (f : Field n t a b v) where
  pub field_took : t ≡ not (eqb v 0) → Took a b (field n v)
  field_took h = subst (Took a b) (ap (λ z. cond z (le n v) []) h ∙ field_turn (eqb v 0) (le n v)) f.took

  -- a field that is written there has the value that was read
  pub step : (y : ℕ) (s : List ℕ) → t ≡ not (eqb y 0) → y < 256 ^ n → left a ≡ field n y ++ s → (v ≡ y) × (left b ≡ s)
  step y s h lt e =
      unique n t v y (left b) s f.fits lt f.absent (absent t y h)
      (sym f.took.split ∙ e ∙ ap (λ l. l ++ s) (sym (field_turn (eqb y 0) (le n y)) ∙ ap (λ z. cond z (le n y) []) (sym h)))

  pub field_length : length (left a) ≡ cond t n 0 + length (left b)
  field_length = ap length f.took.split ∙ length-append _ _ ∙ ap (λ k. k + length (left b)) (length_field_if n t v)
