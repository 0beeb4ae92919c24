-- The two bytes of the map in front of the rights.
use Rattle.std.proofs.Common.{◌≡◌, ℕ, suc, ◌+◌, ◌*◌, ◌/◌, ◌%◌, ◌^◌, ◌<◌, ◌≤◌, Bool, true, false, cond, not, eqb, List, [], ◌∷◌, ◌++◌, length, get_or, take, drop, Some, None, Option, sym, refl, ap, ◌∙◌, subst, pow-suc, arith, pow_mono, append-nil, append_assoc, length-append}
use lib.Count.{ones, ones_step}
use Rattle.std.specs.Int.{from_bool}
use Rattle.std.proofs.lemmas.List.{length_push}
use Rattle.std.proofs.lemmas.List.Sums.{sum_by-cons}
use Rattle.std.specs.List.{sum_by, enumerate_from}
use Rattle.std.specs.Option as options
use Rattle.std.proofs.lemmas.Bool.{eqb-true, eqb-false, ne_eqb}
use Rattle.byte_cursor.specs.Bytes.{le}
use Rattle.records.specs.Rights.{rights_size, marks_over, marks_number, bytes_of, RightsForm, rights_body, Marked}

bit_le : (z : Bool) → cond z 0 1 ≤ 1
bit_le true = omega arith
bit_le false = omega arith

pub marks_lt : (rs : List ℕ) → marks_number rs < 2 ^ length rs
marks_lt [] = omega arith
marks_lt (b ∷ rs) = let p : 2 ^ suc (length rs) ≡ 2 ^ length rs * 2 = pow-suc 2 (length rs) in omega (arith, marks_lt rs, bit_le (eqb b 0))

pub marks_fit : (rs : List ℕ) → RightsForm rs → marks_number rs < 65536
marks_fit rs f = subst (λ n. marks_number rs < 2 ^ n) f.users (marks_lt rs)

which : (z : Bool) (p X : List ℕ) → p ≡ cond z [] X → 0 < length p → (z ≡ false) × (p ≡ X)
which true p X e l = absurd (omega (arith, ap length e))
which false p X e l = (refl, e)

two_front : (p : List ℕ) → 2 ≤ length p → p ≡ get_or p 0 0 ∷ get_or p 1 0 ∷ drop 2 p
two_front [] h = absurd (omega arith)
two_front (a ∷ []) h = absurd (omega arith)
two_front (a ∷ b ∷ p) h = refl

-- the first two of a part
front_first : (p : List ℕ) → get_or (take 2 p) 0 0 ≡ get_or p 0 0
front_first [] = refl
front_first (a ∷ p) = refl

front_second : (p : List ℕ) → get_or (take 2 p) 1 0 ≡ get_or p 1 0
front_second [] = refl
front_second (a ∷ []) = refl
front_second (a ∷ b ∷ p) = refl

pub map_is : (p m : List ℕ) {v : ℕ} → m ≡ take 2 p → v ≡ get_or m 0 0 + get_or m 1 0 * 256 → v ≡ get_or p 0 0 + get_or p 1 0 * 256
map_is p m e is = is ∙ ap (λ l. get_or l 0 0 + get_or l 1 0 * 256) e ∙ (λ i. front_first p i + front_second p i * 256)

-- what a part that writes rights tells of them
pub record Tells (p rs : List ℕ) : Type 0 where
  pub long : 2 ≤ length p
  pub some : marks_number rs ≡ 0 → ⊥
  pub marks : marks_number rs ≡ get_or p 0 0 + get_or p 1 0 * 256
  pub bytes : bytes_of rs ≡ drop 2 p

pub tells : (p rs : List ℕ) → RightsForm rs → p ≡ rights_body rs → 0 < length p → Tells p rs
tells p rs f e l =
    let w = which (eqb (marks_number rs) 0) p (le 2 (marks_number rs) ++ bytes_of rs) e l in
    let v = marks_number rs in
    let lt : v < 65536 = marks_fit rs f in
    let q : p ≡ v % 256 ∷ (v / 256) % 256 ∷ bytes_of rs = w.1 in
    let e₀ : get_or p 0 0 ≡ v % 256 = ap (λ l. get_or l 0 0) q in
    let e₁ : get_or p 1 0 ≡ (v / 256) % 256 = ap (λ l. get_or l 1 0) q in
    let n : length p ≡ suc (suc (length (bytes_of rs))) = ap length q in
    record { long = omega arith; some = eqb-false v 0 w.0; marks = omega arith; bytes = sym (ap (drop 2) q) }

pub writes : (p rs : List ℕ) (v : ℕ) → 2 ≤ length p → get_or p 0 0 < 256 → get_or p 1 0 < 256 → v ≡ get_or p 0 0 + get_or p 1 0 * 256 → (v ≡ 0 → ⊥) → Marked v (drop 2 p) rs → p ≡ rights_body rs
writes p rs v l h₀ h₁ is some k =
    let e₀ : v % 256 ≡ get_or p 0 0 = omega arith in
    let q : v / 256 ≡ get_or p 1 0 = omega arith in
    let e₁ : (v / 256) % 256 ≡ get_or p 1 0 = ap (λ k. k % 256) q ∙ omega arith in
    two_front p l ∙ (λ i. sym e₀ i ∷ sym e₁ i ∷ sym k.bytes_are i) ∙ ap (λ m. le 2 m ++ bytes_of rs) (sym k.marks_are)
    ∙ ap (λ z. cond z [] (le 2 (marks_number rs) ++ bytes_of rs)) (sym (ne_eqb (marks_number rs) 0 (λ z. some (sym k.marks_are ∙ z))))

pub some_weaker : {A B : Type 0} {X : Type 0} {P Q : X → Type 0} (o : Option X) → options.MatchOption o A P → (A → B) → ((x : X) → P x → Q x) → options.MatchOption o B Q
some_weaker None h f g = f h
some_weaker (Some x) h f g = g x h

-- one user more behind
pub marks_snoc : (P : List ℕ) (b m : ℕ) → marks_over (P ++ b ∷ []) m ≡ marks_over P (cond (eqb b 0) 0 1 + 2 * m)
marks_snoc [] b m = refl
marks_snoc (x ∷ P) b m = ap (λ k. cond (eqb x 0) 0 1 + 2 * k) (marks_snoc P b m)

one_above : (P : List ℕ) → marks_over P 1 ≡ marks_number P + 2 ^ length P
one_above [] = omega arith
one_above (x ∷ P) = let p : 2 ^ suc (length P) ≡ 2 ^ length P * 2 = pow-suc 2 (length P) in omega (arith, one_above P)

-- what a user adds to the map, and all of them behind others
abbrev pub mark : ℕ × ℕ → ℕ
mark p = (from_bool (not (eqb p.1 0)) * 2 ^ p.0) % 65536

placed : (z : Bool) (P : List ℕ) (u : ℕ) → length P ≡ u → u < 16 → marks_number P + (from_bool (not z) * 2 ^ u) % 65536 ≡ marks_over P (cond z 0 1 + 2 * 0)
placed true P u e lt = omega arith
placed false P u e lt =
    let h : 2 ^ u ≤ 2 ^ 15 = pow_mono {i = u} {j = 15} (omega arith) in
    let q : 2 ^ length P ≡ 2 ^ u = ap (λ k. 2 ^ k) e in
    omega (arith, one_above P)

marks_behind : (P bs : List ℕ) (u : ℕ) → length P ≡ u → length (P ++ bs) ≤ 16 → sum_by mark (enumerate_from u bs) + marks_number P ≡ marks_number (P ++ bs)
marks_behind P [] u e l = let same : marks_number (P ++ []) ≡ marks_number P = ap marks_number (append-nil P) in omega (arith, same)
marks_behind P (b ∷ bs) u e l =
    let lt : u < 16 = omega (arith, length-append P (b ∷ bs)) in
    let whole : (P ++ b ∷ []) ++ bs ≡ P ++ b ∷ bs = append_assoc P (b ∷ []) bs in
    let one : marks_number P + mark (u, b) ≡ marks_number (P ++ b ∷ []) = placed (eqb b 0) P u e lt ∙ sym (marks_snoc P b 0) in
    let more = marks_behind (P ++ b ∷ []) bs (u + 1) (length_push P b ∙ ap (λ k. k + 1) e) (subst (λ (xs : List ℕ). length xs ≤ 16) (sym whole) l) in
    let first : sum_by mark (enumerate_from u (b ∷ bs)) ≡ mark (u, b) + sum_by mark (enumerate_from (u + 1) bs) = sum_by-cons mark (u, b) (enumerate_from (u + 1) bs) in
    let same : marks_number ((P ++ b ∷ []) ++ bs) ≡ marks_number (P ++ b ∷ bs) = ap marks_number whole in
    omega (arith, one, more, first, same)

pub marks_sum : (rs : List ℕ) → length rs ≡ 16 → (sum_by mark (enumerate_from 0 rs) ≡ marks_number rs) × (sum_by mark (enumerate_from 0 rs) < 65536)
marks_sum rs e =
    let s : sum_by mark (enumerate_from 0 rs) + 0 ≡ marks_number rs = marks_behind [] rs 0 refl (omega (arith, e)) in
    let lt : marks_number rs < 65536 = subst (λ n. marks_number rs < 2 ^ n) e (marks_lt rs) in
    (omega (arith, s), omega (arith, s, lt))

ones_front : (z : Bool) (b M : ℕ) (bs : List ℕ) → ones M ≡ length bs → ones (cond z 0 1 + 2 * M) ≡ length (cond z bs (b ∷ bs))
ones_front true b M bs e =
    let m : (0 + 2 * M) % 2 ≡ 0 = omega arith in
    let h : (0 + 2 * M) / 2 ≡ M = omega arith in
    ones_step (0 + 2 * M) ∙ (λ i. m i + ones (h i)) ∙ omega arith
ones_front false b M bs e =
    let m : (1 + 2 * M) % 2 ≡ 1 = omega arith in
    let h : (1 + 2 * M) / 2 ≡ M = omega arith in
    ones_step (1 + 2 * M) ∙ (λ i. m i + ones (h i)) ∙ omega arith

-- as many bytes as the map has users
pub ones_marks : (rs : List ℕ) → ones (marks_number rs) ≡ length (bytes_of rs)
unfolding ones
ones_marks [] = refl
ones_marks (b ∷ rs) = ones_front (eqb b 0) b (marks_number rs) (bytes_of rs) (ones_marks rs)

none_marked : (z : Bool) (p X : List ℕ) → p ≡ cond z [] X → length p ≡ 0 → 0 < length X → z ≡ true
none_marked true p X e l h = refl
none_marked false p X e l h = absurd (omega (arith, ap length e))

-- the part tells the map
pub marks_told : (p rs : List ℕ) → RightsForm rs → p ≡ rights_body rs → marks_number rs ≡ get_or p 0 0 + get_or p 1 0 * 256
marks_told [] rs f e = eqb-true (marks_number rs) 0 (none_marked (eqb (marks_number rs) 0) [] (le 2 (marks_number rs) ++ bytes_of rs) e refl (omega arith))
marks_told (b ∷ p) rs f e = (tells (b ∷ p) rs f e (omega arith)).marks

sized : (z : Bool) (v : ℕ) (bs rest : List ℕ) → v < 65536 → ones v ≡ length bs → length (cond z [] (le 2 v ++ bs)) ≡ cond (not z) (rights_size (cond z [] (le 2 v ++ bs) ++ rest)) 0
sized true v bs rest h e = refl
sized false v bs rest h e =
    let w : v % 256 + (v / 256) % 256 * 256 ≡ v = omega arith in
    let q : ones (v % 256 + (v / 256) % 256 * 256) ≡ length bs = ap ones w ∙ e in
    omega arith

-- how long the field is, by its first bytes
pub body_size : (rs rest : List ℕ) → RightsForm rs → length (rights_body rs) ≡ cond (not (eqb (marks_number rs) 0)) (rights_size (rights_body rs ++ rest)) 0
body_size rs rest f = sized (eqb (marks_number rs) 0) (marks_number rs) (bytes_of rs) rest (marks_fit rs f) (ones_marks rs)
