-- A call's map and number, and what follows them. Assumes nothing.
use Rattle.std.proofs.Common.{◌≡◌, ℕ, ◌+◌, ◌^◌, ◌<◌, List, [], ◌∷◌, ◌++◌, length, get_or, drop, sym, refl, ap, ◌∙◌, subst, inr, ⊎_elim, arith, length-append}
use Rattle.byte_cursor.specs.declared.cursors.Cursor.{Cursor}
use Rattle.byte_cursor.specs.declared.cursors.CursorFault.{CursorFault}
use Rattle.byte_cursor.specs.Bytes.{left, Took}
use Rattle.calls.specs.declared.types.Call.{Call}
use Rattle.records.proofs.Fields.{took_more}
use Rattle.stream.specs.declared.faults.CallFault.TheVariants.{Bytes, Form}
use Rattle.stream.specs.Forms.{number_of, arguments, widths, map_number, body_of, encode, Fit, InForm, size_of, Known}
use Rattle.stream.specs.Faults.{Faulty, Unique, Whole}
use Rattle.stream.specs.Inside.{Reads}
use Rattle.stream.proofs.Lists.{map_lt, fit_length, bodies, body_size, reads_took, reads_fit, reads_long, reads_same}
use Rattle.stream.proofs.Five.{same_call, some}

two : (h : List ℕ) → length h ≡ 2 → h ≡ get_or h 0 0 ∷ get_or h 1 0 ∷ []
two [] e = absurd (omega arith)
two (a ∷ []) e = absurd (omega arith)
two (a ∷ b ∷ []) e = refl
two (a ∷ b ∷ c ∷ h) e = absurd (omega arith)

-- a map and a number were read from a to b
pub record Head (a b : Cursor) (bits k : ℕ) : Type 0 where
  pub took : Took a b (bits ∷ k ∷ [])
  pub first : b.first ≡ a.place

pub head_read : {a a₁ b : Cursor} (h : List ℕ) → Took a a₁ [] → a₁.first ≡ a.place → Took a₁ b h → length h ≡ 2 → b.first ≡ a₁.first → Head a b (get_or h 0 0) (get_or h 1 0)
head_read {a} {a₁} {b} h t f u l g = record { took = subst (Took a b) (two h l) (took_more [] h t u); first = g ∙ f }

-- the number and the map of a call in form are known
pub known : (x : Call) → InForm x → Known (number_of x) (map_number (arguments x))
known x h = record { number = some x; map = subst (λ n. map_number (arguments x) < 2 ^ n) (fit_length (widths (number_of x)) (arguments x) h) (map_lt (arguments x)) }

pub whole : Whole
whole x rest h c =
    let s = body_size (widths (number_of x)) (arguments x) (map_number (arguments x)) h refl in
    let l = length-append (body_of (widths (number_of x)) (arguments x)) rest in
    ⊎_elim (λ lt. omega arith) (λ k. omega (arith, k.2, s, l)) c

-- the parts of a call that stands in front
front : (x : Call) (bits k : ℕ) (bs rest : List ℕ) → bits ∷ k ∷ bs ≡ encode x ++ rest → (map_number (arguments x) ≡ bits) × (number_of x ≡ k) × (bs ≡ body_of (widths (number_of x)) (arguments x) ++ rest)
front x bits k bs rest e = ((cc), (cc), (cc))

pub unique_call : Unique
unique_call x y r s hx hy e =
    let f = front x (map_number (arguments y)) (number_of y) (body_of (widths (number_of y)) (arguments y) ++ s) r (sym e) in
    let n = f.1 in
    let hx' : Fit (widths (number_of y)) (arguments x) = subst (λ k. Fit (widths k) (arguments x)) n hx in
    let b = bodies (widths (number_of y)) (arguments x) (arguments y) r s hx' hy f.0 (ap (λ k. body_of (widths k) (arguments x) ++ r) (sym n) ∙ sym f.2) in
    (same_call x y n b.0, b.1)

module _ {a b : Cursor} {bits k : ℕ} (h : Head a b bits k) where
  all : left a ≡ bits ∷ k ∷ left b
  all = h.took.split

  long : length (left a) ≡ 2 + length (left b)
  long = ap length all ∙ omega arith

  rest_long : length (drop 2 (left a)) ≡ length (left b)
  rest_long = ap (λ l. length (drop 2 l)) all

  -- no call has the number, or a bit stands for no argument
  pub unknown : (Known k bits → ⊥) → (q : ℕ) → q ≡ b.first → Faulty a.place (left a) (Form q)
  unknown bad q e = (
    e ∙ h.first,
    ⊎_elim (λ lt. omega (arith, long)) (λ c. bad (subst (λ l. Known (get_or l 1 0) (get_or l 0 0)) all c.1)),
    λ x rest i same. let f = front x bits k (left b) rest (sym all ∙ same) in bad (subst (λ n. Known n bits) f.1 (subst (λ m. Known (number_of x) m) f.0 (known x i))),
  )

  module _ (is : Known k bits) where
    known_all : Known (get_or (left a) 1 0) (get_or (left a) 0 0)
    known_all = subst (λ l. Known (get_or l 1 0) (get_or l 0 0)) (sym all) is

    sizes : size_of (get_or (left a) 0 0) (widths (get_or (left a) 1 0)) ≡ size_of bits (widths k)
    sizes = ap (λ l. size_of (get_or l 0 0) (widths (get_or l 1 0))) all

    -- the arguments end too early
    pub cut : (e : CursorFault) → e.first ≡ b.first → length (left b) < size_of bits (widths k) → Faulty a.place (left a) (Bytes e)
    cut e f lt = (f ∙ h.first, inr (omega (arith, long), known_all, omega (arith, sizes, rest_long)))

    module _ (c : Cursor) (vs : List ℕ) (r : Reads bits (widths k) vs b c) where
      -- an argument in the map is zero
      pub other : (map_number vs ≡ bits → ⊥) → (q : ℕ) → q ≡ b.first → Faulty a.place (left a) (Form q)
      other bad q e = (
        e ∙ h.first,
        ⊎_elim (λ lt. omega (arith, long)) (λ d. omega (arith, d.2, sizes, rest_long, reads_long bits (widths k) vs b c r)),
        λ x rest i same.
            let f = front x bits k (left b) rest (sym all ∙ same) in
            let i' : Fit (widths k) (arguments x) = subst (λ n. Fit (widths n) (arguments x)) f.1 i in
            let e' : left b ≡ body_of (widths k) (arguments x) ++ rest = f.2 ∙ ap (λ n. body_of (widths n) (arguments x) ++ rest) f.1 in
            bad (ap map_number (reads_same bits (widths k) vs b c r (arguments x) rest i' f.0 e') ∙ f.0),
      )

      -- the call was read
      pub good : (x : Call) → number_of x ≡ k → arguments x ≡ vs → map_number vs ≡ bits → InForm x × Took a c (encode x)
      good x n v m = (
        subst (λ n. Fit (widths n) (arguments x)) (sym n) (subst (λ l. Fit (widths k) l) (sym v) (reads_fit bits (widths k) vs b c r)),
        subst (Took a c) (λ i. (sym m ∙ ap map_number (sym v)) i ∷ sym n i ∷ body_of (widths (sym n i)) (sym v i)) (took_more (bits ∷ k ∷ []) (body_of (widths k) vs) h.took (reads_took bits (widths k) vs b c r m)),
      )
