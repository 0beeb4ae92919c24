-- A call's arguments among the five that are read. Assumes nothing.
use Rattle.std.proofs.Common.{◌≡◌, ℕ, zero, suc, ◌+◌, ◌*◌, ◌/◌, ◌%◌, ◌^◌, ◌<◌, Bool, true, false, cond, not, eqb, List, [], ◌∷◌, length, sym, refl, ap, ◌∙◌, subst, ap₂, ⊎_elim, pow-suc, arith, eq-eqb}
use lib.Bits.{bit_and, and_high}
use Rattle.std.proofs.lemmas.Bool.{ne_eqb, cases_eq}
use Rattle.byte_cursor.specs.declared.cursors.Cursor.{Cursor}
use Rattle.byte_cursor.specs.Bytes.{Took, Field, field_if}
use Rattle.records.specs.Records.{bit_of, has}
use Rattle.calls.specs.declared.types.Call.{Call}
use Rattle.calls.specs.declared.types.Call.TheVariants.{Enter, Launch, Leave, Read, Write, Create, Delete, Move, Raise, Mix, Unmix, Rights, Allow, Bar}
use Rattle.stream.specs.Forms.{number_of, arguments, widths, map_number, odd, size_of, Known}
use Rattle.stream.specs.Inside.{five, kept, pick, spread_map, call_of, Reads}
use Rattle.stream.proofs.Lists.{other_bits, bit_small, reads_from}

-- what holds of each of the fourteen numbers holds of every known one
pub by_number : (P : ℕ → Type 0) → P 1 → P 2 → P 3 → P 4 → P 5 → P 6 → P 7 → P 8 → P 9 → P 10 → P 11 → P 12 → P 13 → P 14 → (k : ℕ) → 0 < length (widths k) → P k
by_number P a b c d e f g h i j k l m n zero s = absurd (omega arith)
by_number P a b c d e f g h i j k l m n (suc zero) s = a
by_number P a b c d e f g h i j k l m n (suc (suc zero)) s = b
by_number P a b c d e f g h i j k l m n (suc (suc (suc zero))) s = c
by_number P a b c d e f g h i j k l m n (suc (suc (suc (suc zero)))) s = d
by_number P a b c d e f g h i j k l m n (suc (suc (suc (suc (suc zero))))) s = e
by_number P a b c d e f g h i j k l m n (suc (suc (suc (suc (suc (suc zero)))))) s = f
by_number P a b c d e f g h i j k l m n (suc (suc (suc (suc (suc (suc (suc zero))))))) s = g
by_number P a b c d e f g h i j k l m n (suc (suc (suc (suc (suc (suc (suc (suc zero)))))))) s = h
by_number P a b c d e f g h i j k l m n (suc (suc (suc (suc (suc (suc (suc (suc (suc zero))))))))) s = i
by_number P a b c d e f g h i j k l m n (suc (suc (suc (suc (suc (suc (suc (suc (suc (suc zero)))))))))) s = j
by_number P a b c d e f g h i j k l m n (suc (suc (suc (suc (suc (suc (suc (suc (suc (suc (suc zero))))))))))) s = k
by_number P a b c d e f g h i j k l m n (suc (suc (suc (suc (suc (suc (suc (suc (suc (suc (suc (suc zero)))))))))))) s = l
by_number P a b c d e f g h i j k l m n (suc (suc (suc (suc (suc (suc (suc (suc (suc (suc (suc (suc (suc zero))))))))))))) s = m
by_number P a b c d e f g h i j k l m n (suc (suc (suc (suc (suc (suc (suc (suc (suc (suc (suc (suc (suc (suc zero)))))))))))))) s = n
by_number P a b c d e f g h i j k l m n (suc (suc (suc (suc (suc (suc (suc (suc (suc (suc (suc (suc (suc (suc (suc z))))))))))))))) s = absurd (omega arith)

kept_long : (k : ℕ) → 0 < length (widths k) → length (kept k) ≡ 5
kept_long = by_number (λ k. length (kept k) ≡ 5) refl refl refl refl refl refl refl refl refl refl refl refl refl refl

kept_widths : (k : ℕ) → 0 < length (widths k) → widths k ≡ pick (kept k) five
kept_widths = by_number (λ k. widths k ≡ pick (kept k) five) refl refl refl refl refl refl refl refl refl refl refl refl refl refl

-- the call that is made has the number and the arguments
pub made_number : (ps : List ℕ) (k : ℕ) → 0 < length (widths k) → number_of (call_of k ps) ≡ k
made_number ps = by_number (λ k. number_of (call_of k ps) ≡ k) refl refl refl refl refl refl refl refl refl refl refl refl refl refl

pub made_arguments : (a b c d l : ℕ) (k : ℕ) → 0 < length (widths k) → arguments (call_of k (a ∷ b ∷ c ∷ d ∷ l ∷ [])) ≡ pick (kept k) (a ∷ b ∷ c ∷ d ∷ l ∷ [])
made_arguments a b c d l = by_number (λ k. arguments (call_of k (a ∷ b ∷ c ∷ d ∷ l ∷ [])) ≡ pick (kept k) (a ∷ b ∷ c ∷ d ∷ l ∷ [])) refl refl refl refl refl refl refl refl refl refl refl refl refl refl

-- the five arguments, from those that are kept
abbrev spread : List Bool → List ℕ → List ℕ
spread [] vs = []
spread (true ∷ ks) [] = []
spread (true ∷ ks) (v ∷ vs) = v ∷ spread ks vs
spread (false ∷ ks) vs = 0 ∷ spread ks vs

again : (x : Call) → call_of (number_of x) (spread (kept (number_of x)) (arguments x)) ≡ x
again (Enter user number label) = refl
again (Launch subject program number label) = refl
again (Leave subject) = refl
again (Read subject object) = refl
again (Write subject object) = refl
again (Create subject parent number kind label) = refl
again (Delete subject object) = refl
again (Move subject object parent) = refl
again (Raise subject object label) = refl
again (Mix subject object) = refl
again (Unmix subject object) = refl
again (Rights subject object user mask) = refl
again (Allow subject user program) = refl
again (Bar subject user program) = refl

-- number and arguments tell the call
pub same_call : (x y : Call) → number_of x ≡ number_of y → arguments x ≡ arguments y → x ≡ y
same_call x y n v = sym (again x) ∙ (λ i. call_of (n i) (spread (kept (n i)) (v i))) ∙ again y

-- every call has a known number
pub some : (x : Call) → 0 < length (widths (number_of x))
some (Enter user number label) = omega arith
some (Launch subject program number label) = omega arith
some (Leave subject) = omega arith
some (Read subject object) = omega arith
some (Write subject object) = omega arith
some (Create subject parent number kind label) = omega arith
some (Delete subject object) = omega arith
some (Move subject object parent) = omega arith
some (Raise subject object label) = omega arith
some (Mix subject object) = omega arith
some (Unmix subject object) = omega arith
some (Rights subject object user mask) = omega arith
some (Allow subject user program) = omega arith
some (Bar subject user program) = omega arith

-- a map over all items: its first bit, and the others
odd_kept : (bits m : ℕ) → odd (bits % 2 + 2 * m) ≡ odd bits
odd_kept bits m = let e : (bits % 2 + 2 * m) % 2 ≡ bits % 2 = omega arith in ap (λ k. not (eqb k 0)) e

half_kept : (bits m : ℕ) → (bits % 2 + 2 * m) / 2 ≡ m
half_kept bits m = omega arith

odd_left : (m : ℕ) → odd (2 * m) ≡ false
odd_left m = ap not (eq-eqb _ 0 (omega arith))

half_left : (m : ℕ) → 2 * m / 2 ≡ m
half_left m = omega arith

narrow : (ks : List Bool) (us ps : List ℕ) (bits : ℕ) (a b : Cursor) → length ks ≡ length us → Reads (spread_map ks bits) us ps a b → Reads bits (pick ks us) (pick ks ps) a b
narrow [] [] [] bits a c l r = r
narrow [] [] (p ∷ ps) bits a c l r = absurd r
narrow [] (u ∷ us) ps bits a c l r = absurd (omega arith)
narrow (k ∷ ks) [] ps bits a c l r = absurd (omega arith)
narrow (true ∷ ks) (u ∷ us) [] bits a c l r = absurd r
narrow (false ∷ ks) (u ∷ us) [] bits a c l r = absurd r
narrow (true ∷ ks) (u ∷ us) (p ∷ ps) bits a c l r =
    (r.0, subst (λ t. Field u t a r.0 p) (odd_kept bits (spread_map ks (bits / 2))) r.1, narrow ks us ps (bits / 2) r.0 c (omega arith) (subst (λ m. Reads m us ps r.0 c) (half_kept bits (spread_map ks (bits / 2))) r.2))
narrow (false ∷ ks) (u ∷ us) (p ∷ ps) bits a c l r =
    reads_from bits (pick ks us) (pick ks ps) a r.0 c (subst (λ t. Took a r.0 (field_if u t p)) (odd_left (spread_map ks bits)) r.1.took) r.1.first
    (narrow ks us ps bits r.0 c (omega arith) (subst (λ m. Reads m us ps r.0 c) (half_left (spread_map ks bits)) r.2))

-- the map of all that were read
map_of_spread : (ks : List Bool) (us ps : List ℕ) (bits : ℕ) (a b : Cursor) → length ks ≡ length us → Reads (spread_map ks bits) us ps a b → map_number ps ≡ spread_map ks (map_number (pick ks ps))
map_of_spread [] [] [] bits a c l r = refl
map_of_spread [] [] (p ∷ ps) bits a c l r = absurd r
map_of_spread [] (u ∷ us) ps bits a c l r = absurd (omega arith)
map_of_spread (k ∷ ks) [] ps bits a c l r = absurd (omega arith)
map_of_spread (true ∷ ks) (u ∷ us) [] bits a c l r = absurd r
map_of_spread (false ∷ ks) (u ∷ us) [] bits a c l r = absurd r
map_of_spread (true ∷ ks) (u ∷ us) (p ∷ ps) bits a c l r =
    let i = map_of_spread ks us ps (bits / 2) r.0 c (omega arith) (subst (λ m. Reads m us ps r.0 c) (half_kept bits (spread_map ks (bits / 2))) r.2) in
    let m = map_number (pick ks ps) in
    let o : cond (eqb p 0) 0 1 ≡ (cond (eqb p 0) 0 1 + 2 * m) % 2 = omega (arith, bit_small (eqb p 0)) in
    ap₂ (λ j k. j + 2 * k) o (i ∙ ap (spread_map ks) (sym (other_bits (eqb p 0) m)))
map_of_spread (false ∷ ks) (u ∷ us) (p ∷ ps) bits a c l r =
    let i = map_of_spread ks us ps bits r.0 c (omega arith) (subst (λ m. Reads m us ps r.0 c) (half_left (spread_map ks bits)) r.2) in
    let z : bit_of 1 p ≡ 0 = ap (λ e. cond e 0 1) (eq-eqb p 0 (r.1.absent (odd_left (spread_map ks bits)))) in
    omega arith

kept_map : (ks : List Bool) (ps : List ℕ) (bits : ℕ) → length ks ≡ length ps → bits < 2 ^ length (pick ks ps) → map_number ps ≡ spread_map ks bits → map_number (pick ks ps) ≡ bits
kept_map [] [] bits l h e = omega arith
kept_map [] (p ∷ ps) bits l h e = absurd (omega arith)
kept_map (k ∷ ks) [] bits l h e = absurd (omega arith)
kept_map (true ∷ ks) (p ∷ ps) bits l h e =
    let q : 2 ^ suc (length (pick ks ps)) ≡ 2 ^ length (pick ks ps) * 2 = pow-suc 2 (length (pick ks ps)) in
    let s = bit_small (eqb p 0) in
    let i = kept_map ks ps (bits / 2) (omega arith) (omega arith) (omega arith) in
    omega arith
kept_map (false ∷ ks) (p ∷ ps) bits l h e =
    let s = bit_small (eqb p 0) in
    kept_map ks ps bits (omega arith) h (omega arith)

kept_size : (ks : List Bool) (us : List ℕ) (bits : ℕ) → length ks ≡ length us → size_of (spread_map ks bits) us ≡ size_of bits (pick ks us)
kept_size [] [] bits l = refl
kept_size [] (u ∷ us) bits l = absurd (omega arith)
kept_size (k ∷ ks) [] bits l = absurd (omega arith)
kept_size (true ∷ ks) (u ∷ us) bits l =
    ap₂ (λ j k. j + k) (ap (λ t. cond t u 0) (odd_kept bits (spread_map ks (bits / 2)))) (ap (λ m. size_of m us) (half_kept bits (spread_map ks (bits / 2))) ∙ kept_size ks us (bits / 2) (omega arith))
kept_size (false ∷ ks) (u ∷ us) bits l =
    ap₂ (λ j k. j + k) (ap (λ t. cond t u 0) (odd_left (spread_map ks bits))) (ap (λ m. size_of m us) (half_left (spread_map ks bits)) ∙ kept_size ks us bits (omega arith)) ∙ omega arith

reads_length : (bits : ℕ) (ws vs : List ℕ) (a b : Cursor) → Reads bits ws vs a b → length vs ≡ length ws
reads_length bits [] [] a b r = refl
reads_length bits [] (v ∷ vs) a b r = absurd r
reads_length bits (w ∷ ws) [] a b r = absurd r
reads_length bits (w ∷ ws) (v ∷ vs) a b r = ap suc (reads_length (bits / 2) ws vs r.0 b r.2)

pick_length : (ks : List Bool) (us ps : List ℕ) → length ps ≡ length us → length (pick ks ps) ≡ length (pick ks us)
pick_length [] us ps l = refl
pick_length (k ∷ ks) [] [] l = refl
pick_length (k ∷ ks) [] (p ∷ ps) l = absurd (omega arith)
pick_length (k ∷ ks) (u ∷ us) [] l = absurd (omega arith)
pick_length (true ∷ ks) (u ∷ us) (p ∷ ps) l = ap suc (pick_length ks us ps (omega arith))
pick_length (false ∷ ks) (u ∷ us) (p ∷ ps) l = pick_length ks us ps (omega arith)

-- the five arguments were read by the full map of a known map
module _ {k bits m : ℕ} (known : Known k bits) (full : m ≡ spread_map (kept k) bits) where
  pub full_size : size_of m five ≡ size_of bits (widths k)
  full_size = ap (λ m. size_of m five) full ∙ kept_size (kept k) five bits (kept_long k known.number) ∙ ap (size_of bits) (sym (kept_widths k known.number))

  module _ (a b : Cursor) (ps : List ℕ) (r : Reads m five ps a b) where
    r' : Reads (spread_map (kept k) bits) five ps a b
    r' = subst (λ m. Reads m five ps a b) full r

    pub full_reads : Reads bits (widths k) (pick (kept k) ps) a b
    full_reads = subst (λ ws. Reads bits ws (pick (kept k) ps) a b) (sym (kept_widths k known.number)) (narrow (kept k) five ps bits a b (kept_long k known.number) r')

    -- the map of what was read is the full map, just where the map of those kept is the call's
    pub full_map : map_number (pick (kept k) ps) ≡ bits → map_number ps ≡ m
    full_map e = map_of_spread (kept k) five ps bits a b (kept_long k known.number) r' ∙ ap (spread_map (kept k)) e ∙ sym full

    pub call_map : map_number ps ≡ m → map_number (pick (kept k) ps) ≡ bits
    call_map e =
        let n = reads_length m five ps a b r in
        let w : length (pick (kept k) ps) ≡ length (widths k) = pick_length (kept k) five ps n ∙ ap length (sym (kept_widths k known.number)) in
        kept_map (kept k) ps bits (kept_long k known.number ∙ sym n) (subst (λ j. bits < 2 ^ j) (sym w) known.map) (e ∙ full)

-- a bit of the full map
pub bit_is : (bits w : ℕ) → 0 < w → bit_and bits w ≡ (bits / w % 2) * w → has bits w ≡ odd (bits / w)
bit_is bits w h is =
    ⊎_elim (λ z. ap not (eq-eqb _ 0 (is ∙ ap (λ k. k * w) z ∙ omega arith)) ∙ sym (ap not (eq-eqb _ 0 z)))
    (λ n. let o : bits / w % 2 ≡ 1 = omega arith in let is' : bit_and bits w ≡ w = is ∙ ap (λ k. k * w) o ∙ omega arith in ap not (ne_eqb _ 0 (λ z. omega (arith, is'))) ∙ sym (ap not (ne_eqb _ 0 n)))
    (cases_eq (bits / w % 2) 0)

pub bit_at : (bits n w : ℕ) → 0 < w → bit_and bits w ≡ (bits / w % 2) * w → bits / w ≡ n → has bits w ≡ odd n
bit_at bits n w h is q = bit_is bits w h is ∙ ap odd q

-- what tells each of the five
pub record Bits (m : ℕ) : Type 0 where
  pub bit_0 : has m 1 ≡ odd m
  pub bit_1 : has m 2 ≡ odd (m / 2)
  pub bit_2 : has m 4 ≡ odd (m / 2 / 2)
  pub bit_3 : has m 8 ≡ odd (m / 2 / 2 / 2)
  pub bit_4 : has m 16 ≡ odd (m / 2 / 2 / 2 / 2)

pub bits_of : (m : ℕ) → Bits m
bits_of m = record {
  bit_0 = bit_at m m 1 (omega arith) (and_high m 1 0) (omega arith);
  bit_1 = bit_at m (m / 2) 2 (omega arith) (and_high m 1 1) refl;
  bit_2 = bit_at m (m / 2 / 2) 4 (omega arith) (and_high m 1 2) (omega arith);
  bit_3 = bit_at m (m / 2 / 2 / 2) 8 (omega arith) (and_high m 1 3) (omega arith);
  bit_4 = bit_at m (m / 2 / 2 / 2 / 2) 16 (omega arith) (and_high m 1 4) (omega arith);
}

pub told : {n : ℕ} {s t : Bool} {a b : Cursor} {v : ℕ} → s ≡ t → Field n s a b v → Field n t a b v
told {n} {s} {t} {a} {b} {v} e f = subst (λ t. Field n t a b v) e f

pub stays : (a : Cursor) → Took a a []
stays a = record { bytes = refl; place = omega arith; split = refl }

-- how many bytes the five arguments take, bit by bit
pub five_size : (m : ℕ) → size_of m five ≡ cond (has m 1) 1 0 + cond (has m 2) 1 0 + cond (has m 4) 1 0 + cond (has m 8) 1 0 + cond (has m 16) 8 0
five_size m =
    let b = bits_of m in
    let size : ℕ → Bool → ℕ = λ w t. cond t w 0 in
    omega (arith, ap (size 1) b.bit_0, ap (size 1) b.bit_1, ap (size 1) b.bit_2, ap (size 1) b.bit_3, ap (size 8) b.bit_4)
