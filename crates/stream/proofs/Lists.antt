-- Arguments that are read one after another. Assumes nothing.
use Rattle.std.proofs.Common.{◌≡◌, ℕ, suc, ◌+◌, ◌*◌, ◌/◌, ◌^◌, ◌<◌, ◌≤◌, Bool, true, false, cond, not, eqb, List, [], ◌∷◌, ◌++◌, length, sym, refl, ap, ◌∙◌, ap₂, append_assoc, pow-suc, arith, length-append, eq-eqb}
use Rattle.std.proofs.lemmas.Bool.{ne_eqb}
use Rattle.byte_cursor.specs.declared.cursors.Cursor.{Cursor}
use Rattle.byte_cursor.specs.Bytes.{le, left, Took}
use Rattle.records.specs.Records.{field}
use Rattle.records.proofs.Fields.{length_le, unique, absent, took_more, field_took, step, field_length}
use Rattle.stream.specs.Forms.{map_number, body_of, Fit, odd, size_of}
use Rattle.stream.specs.Inside.{Reads}

-- the first bit of a map, and the others
pub first_bit : (e : Bool) (m : ℕ) → odd (cond e 0 1 + 2 * m) ≡ not e
first_bit true m = ap not (eq-eqb _ 0 (omega arith))
first_bit false m = ap not (ne_eqb _ 0 (λ z. omega arith))

pub other_bits : (e : Bool) (m : ℕ) → (cond e 0 1 + 2 * m) / 2 ≡ m
other_bits true m = omega arith
other_bits false m = omega arith

module _ {bits : ℕ} (v : ℕ) (vs : List ℕ) (m : map_number (v ∷ vs) ≡ bits) where
  pub tells_first : odd bits ≡ not (eqb v 0)
  tells_first = ap odd (sym m) ∙ first_bit (eqb v 0) (map_number vs)

  pub tells_others : map_number vs ≡ bits / 2
  tells_others = sym (other_bits (eqb v 0) (map_number vs)) ∙ ap (λ k. k / 2) m

pub bit_small : (e : Bool) → cond e 0 1 ≤ 1
bit_small true = omega arith
bit_small false = omega arith

pub map_lt : (vs : List ℕ) → map_number vs < 2 ^ length vs
map_lt [] = omega arith
map_lt (v ∷ vs) = let p : 2 ^ suc (length vs) ≡ 2 ^ length vs * 2 = pow-suc 2 (length vs) in omega (arith, map_lt vs, bit_small (eqb v 0))

pub fit_length : (ws vs : List ℕ) → Fit ws vs → length vs ≡ length ws
fit_length [] [] h = refl
fit_length [] (v ∷ vs) h = absurd h
fit_length (w ∷ ws) [] h = absurd h
fit_length (w ∷ ws) (v ∷ vs) h = ap suc (fit_length ws vs h.1)

-- fields in a row, by the same map
turn : (e : Bool) (xs : List ℕ) → cond e [] xs ≡ cond (not e) xs []
turn true xs = refl
turn false xs = refl

field_unique : (n : ℕ) (t : Bool) (v w : ℕ) (r s : List ℕ) → t ≡ not (eqb v 0) → t ≡ not (eqb w 0) → v < 256 ^ n → w < 256 ^ n → field n v ++ r ≡ field n w ++ s → (v ≡ w) × (r ≡ s)
field_unique n t v w r s p q hv hw e =
    unique n t v w r s hv hw (absent t v p) (absent t w q)
    (ap (λ z. cond z (le n v) [] ++ r) p ∙ ap (λ l. l ++ r) (sym (turn (eqb v 0) (le n v))) ∙ e ∙ ap (λ l. l ++ s) (turn (eqb w 0) (le n w)) ∙ ap (λ z. cond z (le n w) [] ++ s) (sym q))

pub bodies : (ws vs ys r s : List ℕ) → Fit ws vs → Fit ws ys → map_number vs ≡ map_number ys → body_of ws vs ++ r ≡ body_of ws ys ++ s → (vs ≡ ys) × (r ≡ s)
bodies [] [] [] r s f g m e = (refl, e)
bodies [] [] (y ∷ ys) r s f g m e = absurd g
bodies [] (v ∷ vs) ys r s f g m e = absurd f
bodies (w ∷ ws) [] ys r s f g m e = absurd f
bodies (w ∷ ws) (v ∷ vs) [] r s f g m e = absurd g
bodies (w ∷ ws) (v ∷ vs) (y ∷ ys) r s f g m e =
    let e' : field w v ++ (body_of ws vs ++ r) ≡ field w y ++ (body_of ws ys ++ s) = sym (append_assoc (field w v) (body_of ws vs) r) ∙ e ∙ append_assoc (field w y) (body_of ws ys) s in
    let t : odd (map_number (y ∷ ys)) ≡ not (eqb y 0) = tells_first y ys refl in
    let u = field_unique w (odd (map_number (y ∷ ys))) v y (body_of ws vs ++ r) (body_of ws ys ++ s) (tells_first v vs m) t f.0 g.0 e' in
    let q = bodies ws vs ys r s f.1 g.1 (tells_others v vs m ∙ other_bits (eqb y 0) (map_number ys)) u.1 in
    (ap₂ (λ x l. x ∷ l) u.0 q.0, q.1)

size_if : (n : ℕ) (e : Bool) (v : ℕ) → length (cond e [] (le n v)) ≡ cond (not e) n 0
size_if n true v = refl
size_if n false v = length_le n v

-- the bytes of arguments are as many as their map says
pub body_size : (ws vs : List ℕ) (bits : ℕ) → Fit ws vs → map_number vs ≡ bits → length (body_of ws vs) ≡ size_of bits ws
body_size [] [] bits f m = refl
body_size [] (v ∷ vs) bits f m = absurd f
body_size (w ∷ ws) [] bits f m = absurd f
body_size (w ∷ ws) (v ∷ vs) bits f m =
    length-append (field w v) (body_of ws vs)
    ∙ ap₂ (λ j k. j + k) (size_if w (eqb v 0) v ∙ ap (λ z. cond z w 0) (sym (tells_first v vs m))) (body_size ws vs (bits / 2) f.1 (tells_others v vs m))

-- what was read, where its map is the map that was given
pub reads_took : (bits : ℕ) (ws vs : List ℕ) (a b : Cursor) → Reads bits ws vs a b → map_number vs ≡ bits → Took a b (body_of ws vs)
reads_took bits [] [] a b r m = r.0
reads_took bits [] (v ∷ vs) a b r m = absurd r
reads_took bits (w ∷ ws) [] a b r m = absurd r
reads_took bits (w ∷ ws) (v ∷ vs) a b r m = took_more _ _ (field_took r.1 (tells_first v vs m)) (reads_took (bits / 2) ws vs r.0 b r.2 (tells_others v vs m))

pub reads_fit : (bits : ℕ) (ws vs : List ℕ) (a b : Cursor) → Reads bits ws vs a b → Fit ws vs
reads_fit bits [] [] a b r = tt
reads_fit bits [] (v ∷ vs) a b r = absurd r
reads_fit bits (w ∷ ws) [] a b r = absurd r
reads_fit bits (w ∷ ws) (v ∷ vs) a b r = (r.1.fits, reads_fit (bits / 2) ws vs r.0 b r.2)

pub reads_first : (bits : ℕ) (ws vs : List ℕ) (a b : Cursor) → Reads bits ws vs a b → b.first ≡ a.first
reads_first bits [] [] a b r = r.1
reads_first bits [] (v ∷ vs) a b r = absurd r
reads_first bits (w ∷ ws) [] a b r = absurd r
reads_first bits (w ∷ ws) (v ∷ vs) a b r = reads_first (bits / 2) ws vs r.0 b r.2 ∙ r.1.first

-- the bytes were there
pub reads_long : (bits : ℕ) (ws vs : List ℕ) (a b : Cursor) → Reads bits ws vs a b → length (left a) ≡ size_of bits ws + length (left b)
reads_long bits [] [] a b r = ap length r.0.split ∙ omega arith
reads_long bits [] (v ∷ vs) a b r = absurd r
reads_long bits (w ∷ ws) [] a b r = absurd r
reads_long bits (w ∷ ws) (v ∷ vs) a b r = omega (arith, field_length r.1, reads_long (bits / 2) ws vs r.0 b r.2)

-- arguments in form that are written there, with that map, are those that were read
pub reads_same : (bits : ℕ) (ws vs : List ℕ) (a b : Cursor) → Reads bits ws vs a b → (ys rest : List ℕ) → Fit ws ys → map_number ys ≡ bits → left a ≡ body_of ws ys ++ rest → vs ≡ ys
reads_same bits [] [] a b r [] rest f m e = refl
reads_same bits [] [] a b r (y ∷ ys) rest f m e = absurd f
reads_same bits [] (v ∷ vs) a b r ys rest f m e = absurd r
reads_same bits (w ∷ ws) [] a b r ys rest f m e = absurd r
reads_same bits (w ∷ ws) (v ∷ vs) a b r [] rest f m e = absurd f
reads_same bits (w ∷ ws) (v ∷ vs) a b r (y ∷ ys) rest f m e =
    let s = step r.1 y (body_of ws ys ++ rest) (tells_first y ys m) f.0 (e ∙ append_assoc (field w y) (body_of ws ys) rest) in
    ap₂ (λ x l. x ∷ l) s.0 (reads_same (bits / 2) ws vs r.0 b r.2 ys rest f.1 (tells_others y ys m) s.1)

-- nothing was read before
pub reads_from : (bits : ℕ) (ws vs : List ℕ) (a b c : Cursor) → Took a b [] → b.first ≡ a.first → Reads bits ws vs b c → Reads bits ws vs a c
reads_from bits [] [] a b c t f r = (took_more [] [] t r.0, r.1 ∙ f)
reads_from bits [] (v ∷ vs) a b c t f r = absurd r
reads_from bits (w ∷ ws) [] a b c t f r = absurd r
reads_from bits (w ∷ ws) (v ∷ vs) a b c t f r =
    (r.0, record { took = took_more [] _ t r.1.took; first = r.1.first ∙ f; fits = r.1.fits; absent = r.1.absent }, r.2)
