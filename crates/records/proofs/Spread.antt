-- The loop that gives each user in a map the next byte.
use Rattle.std.proofs.Common.{◌≡◌, ℕ, zero, suc, ◌+◌, ◌-◌, ◌*◌, ◌/◌, ◌%◌, ◌^◌, ◌<◌, ◌≤◌, Bool, true, false, cond, eqb, ◌≢◌, ◌⊎◌, List, [], ◌∷◌, ◌++◌, length, get_or, take, drop, set, replicate, sym, refl, ap, ◌∙◌, subst, ⊎_elim, append-nil, append_assoc, MatchOption, pow-suc, arith}
use Rattle.std.specs.List.{AllByRecursion}
use Rattle.std.specs.Bool.{then_some}
use Rattle.std.proofs.slice.Lists.{all_by_recursion_push}
use Rattle.std.proofs.lemmas.Bool.{eqb-true, eqb-false, ne_eqb}
use Rattle.std.proofs.lemmas.Nat.{div_below}
use Rattle.std.proofs.lemmas.List.{take_more, take_more_set, drop_more, length_push, length-set, get_or-set_other, take_all, drop_all}
use Rattle.records.specs.Rights.{marks_over, marks_number, bytes_of, Marked}
use Rattle.records.proofs.Masks.{marks_snoc}

under : (z : Bool) (x : ℕ) (X Y t : List ℕ) → X ≡ Y ++ t → cond z X (x ∷ X) ≡ cond z Y (x ∷ Y) ++ t
under true x X Y t e = e
under false x X Y t e = ap (λ l. x ∷ l) e

bytes_snoc : (P : List ℕ) (b : ℕ) → bytes_of (P ++ b ∷ []) ≡ bytes_of P ++ cond (eqb b 0) [] (b ∷ [])
bytes_snoc [] b = refl
bytes_snoc (x ∷ P) b = under (eqb x 0) x _ _ _ (bytes_snoc P b)

odd_one : (z : Bool) (M m : ℕ) (Y X xs : List ℕ) → m % 2 ≡ 1 → cond z 0 1 + 2 * M ≡ m → cond z Y X ≡ xs → (z ≡ false) × (M ≡ m / 2) × (X ≡ xs)
odd_one true M m Y X xs o e f = absurd (omega arith)
odd_one false M m Y X xs o e f = (refl, omega arith, f)

even_one : (z : Bool) (M m : ℕ) (Y X xs : List ℕ) → m % 2 ≡ 0 → cond z 0 1 + 2 * M ≡ m → cond z Y X ≡ xs → (z ≡ true) × (M ≡ m / 2) × (Y ≡ xs)
even_one true M m Y X xs o e f = (refl, omega arith, f)
even_one false M m Y X xs o e f = absurd (omega arith)

clear_at : (rs : List ℕ) (u : ℕ) → AllByRecursion (λ b. b < 128) rs → u < length rs → get_or rs u 0 < 128
clear_at [] u h l = absurd (omega arith)
clear_at (x ∷ rs) zero h l = h.0
clear_at (x ∷ rs) (suc u) h l = clear_at rs u h.1 (omega arith)

-- u users are done, with the rights P; the map m and the bytes `left` are still to be given out
pub record Half (marks : ℕ) (bytes : List ℕ) (u m : ℕ) (left P : List ℕ) : Type 0 where
  pub len : length P ≡ u
  pub over : marks_over P m ≡ marks
  pub got : bytes_of P ++ left ≡ bytes
  pub clear : AllByRecursion (λ b. b < 128) P
  pub small : m < 2 ^ (16 - u)
  pub only : (rs : List ℕ) → Marked marks bytes rs → (take u rs ≡ P) × (marks_number (drop u rs) ≡ m) × (bytes_of (drop u rs) ≡ left)

pub start : (marks : ℕ) (bytes : List ℕ) → marks < 65536 → Half marks bytes 0 marks bytes []
start marks bytes h = record { len = refl; over = refl; got = refl; clear = tt; small = h; only = λ rs k. (refl, k.marks_are, k.bytes_are) }

module _ {marks : ℕ} {bytes : List ℕ} {u m : ℕ} {left P : List ℕ} (h : Half marks bytes u m left P) where
  smaller : u < 16 → m / 2 < 2 ^ (16 - (u + 1))
  smaller lt =
      let k = 16 - (u + 1) in
      let e : 16 - u ≡ suc k = omega arith in
      let p : 2 ^ (16 - u) ≡ 2 ^ k * 2 = ap (λ n. 2 ^ n) e ∙ pow-suc 2 k in
      let s = h.small in
      div_below m 2 (2 ^ k) (omega arith) (omega arith)

  -- what the next user has, under rights that are still possible
  module _ (lt : u < 16) (rs : List ℕ) (k : Marked marks bytes rs) where
    ahead : drop u rs ≡ get_or rs u 0 ∷ drop (u + 1) rs
    ahead = drop_more rs u 0 (omega (arith, k.form.users))

    seen_odd : m % 2 ≡ 1 → (eqb (get_or rs u 0) 0 ≡ false) × (marks_number (drop (u + 1) rs) ≡ m / 2) × (get_or rs u 0 ∷ bytes_of (drop (u + 1) rs) ≡ left)
    seen_odd o = odd_one (eqb (get_or rs u 0) 0) _ m _ _ _ o (sym (ap marks_number ahead) ∙ (h.only rs k).1) (sym (ap bytes_of ahead) ∙ (h.only rs k).2)

    seen_even : m % 2 ≡ 0 → (eqb (get_or rs u 0) 0 ≡ true) × (marks_number (drop (u + 1) rs) ≡ m / 2) × (bytes_of (drop (u + 1) rs) ≡ left)
    seen_even o = even_one (eqb (get_or rs u 0) 0) _ m _ _ _ o (sym (ap marks_number ahead) ∙ (h.only rs k).1) (sym (ap bytes_of ahead) ∙ (h.only rs k).2)

    more : take (u + 1) rs ≡ P ++ get_or rs u 0 ∷ []
    more = take_more rs u 0 (omega (arith, k.form.users)) ∙ ap (λ l. l ++ get_or rs u 0 ∷ []) (h.only rs k).0

  pub skip : u < 16 → m % 2 ≡ 0 → Half marks bytes (u + 1) (m / 2) left (P ++ 0 ∷ [])
  skip lt o = record {
    len = length_push P 0 ∙ ap (λ k. k + 1) h.len;
    over = marks_snoc P 0 (m / 2) ∙ ap (marks_over P) (omega arith) ∙ h.over;
    got = ap (λ l. l ++ left) (bytes_snoc P 0 ∙ append-nil (bytes_of P)) ∙ h.got;
    clear = all_by_recursion_push (λ b. b < 128) P 0 h.clear (omega arith);
    small = smaller lt;
    only = λ rs k.
        let s = seen_even lt rs k o in
        (more lt rs k ∙ ap (λ d. P ++ d ∷ []) (eqb-true (get_or rs u 0) 0 s.0), s.1, s.2);
  }

  pub mark : u < 16 → m % 2 ≡ 1 → (b : ℕ) (rest : List ℕ) → left ≡ b ∷ rest → (b ≡ 0 → ⊥) → b < 128 → Half marks bytes (u + 1) (m / 2) rest (P ++ b ∷ [])
  mark lt o b rest is some clear-b =
      let z : eqb b 0 ≡ false = ne_eqb b 0 some in
      let one : cond (eqb b 0) 0 1 + 2 * (m / 2) ≡ m = ap (λ t. cond t 0 1 + 2 * (m / 2)) z ∙ omega arith in
      record {
        len = length_push P b ∙ ap (λ k. k + 1) h.len;
        over = marks_snoc P b (m / 2) ∙ ap (marks_over P) one ∙ h.over;
        got = ap (λ l. l ++ rest) (bytes_snoc P b ∙ ap (λ t. bytes_of P ++ cond t [] (b ∷ [])) z) ∙ append_assoc (bytes_of P) (b ∷ []) rest ∙ ap (λ l. bytes_of P ++ l) (sym is) ∙ h.got;
        clear = all_by_recursion_push (λ b. b < 128) P b h.clear clear-b;
        small = smaller lt;
        only = λ rs k.
            let s = seen_odd lt rs k o in
            let both : get_or rs u 0 ∷ bytes_of (drop (u + 1) rs) ≡ b ∷ rest = s.2 ∙ is in
            let d : get_or rs u 0 ≡ b = cc in
            let r : bytes_of (drop (u + 1) rs) ≡ rest = cc in
            (more lt rs k ∙ ap (λ d. P ++ d ∷ []) d, s.1, r);
      }

  -- no rights are possible where a user in the map has no byte, or no good one
  pub none : u < 16 → m % 2 ≡ 1 → left ≡ [] → (rs : List ℕ) → Marked marks bytes rs → ⊥
  none lt o is rs k = let s = seen_odd lt rs k o in let e : get_or rs u 0 ∷ bytes_of (drop (u + 1) rs) ≡ [] = s.2 ∙ is in cc

  pub bad : u < 16 → m % 2 ≡ 1 → (b : ℕ) (rest : List ℕ) → left ≡ b ∷ rest → (b ≡ 0) ⊎ (128 ≤ b) → (rs : List ℕ) → Marked marks bytes rs → ⊥
  bad lt o b rest is no-good rs k =
      let s = seen_odd lt rs k o in
      let both : get_or rs u 0 ∷ bytes_of (drop (u + 1) rs) ≡ b ∷ rest = s.2 ∙ is in
      let d : get_or rs u 0 ≡ b = cc in
      ⊎_elim (λ e. eqb-false (get_or rs u 0) 0 s.0 (d ∙ e)) (λ e. omega (arith, clear_at rs u k.form.clear (omega (arith, k.form.users)))) no-good

-- after the last user
pub done : {marks : ℕ} {bytes : List ℕ} {m : ℕ} {left P : List ℕ} → Half marks bytes 16 m left P → left ≡ [] → Marked marks bytes P
done {marks} {bytes} {m} {left} {P} h none =
    let s : m < 1 = h.small in
    let z : m ≡ 0 = omega arith in
    record {
      form = record { users = h.len; clear = h.clear };
      marks_are = ap (marks_over P) (sym z) ∙ h.over;
      bytes_are = sym (append-nil (bytes_of P)) ∙ ap (λ l. bytes_of P ++ l) (sym none) ∙ h.got;
    }

pub left_over : {marks : ℕ} {bytes : List ℕ} {m : ℕ} {left P : List ℕ} → Half marks bytes 16 m left P → (left ≡ [] → ⊥) → (rs : List ℕ) → Marked marks bytes rs → ⊥
left_over {marks} {bytes} {m} {left} {P} h some rs k =
    let n : drop 16 rs ≡ [] = drop_all 16 rs (omega (arith, k.form.users)) in
    some (sym (h.only rs k).2 ∙ ap bytes_of n)

ended : {marks : ℕ} {bytes : List ℕ} {m : ℕ} (left P : List ℕ) → Half marks bytes 16 m left P → MatchOption (then_some (eqb (length left) 0) P) ((rs : List ℕ) → Marked marks bytes rs → ⊥) (Marked marks bytes)
ended [] P h = done h refl
ended {marks} {bytes} (b ∷ left) P h =
    let z = ne_eqb (suc (length left)) 0 (λ e. omega (arith, e)) in
    subst (λ t. MatchOption (then_some t P) ((rs : List ℕ) → Marked marks bytes rs → ⊥) (Marked marks bytes)) (sym z) (left_over h (λ e. cc))

-- the loop's state: the array `rights` holds P, and zeros behind it
pub record Turn (marks : ℕ) (bytes : List ℕ) (u m : ℕ) (left rights : List ℕ) : Type 0 where
  pub half : Half marks bytes u m left (take u rights)
  pub whole : length rights ≡ 16
  pub zeros : (k : ℕ) → u ≤ k → get_or rights k 0 ≡ 0

module _ {marks : ℕ} {bytes : List ℕ} {u m : ℕ} {left rights : List ℕ} (t : Turn marks bytes u m left rights) where
  pub turn_skip : u < 16 → m % 2 ≡ 0 → Turn marks bytes (u + 1) (m / 2) left rights
  turn_skip lt o =
      let e = take_more rights u 0 (omega (arith, t.whole)) ∙ ap (λ d. take u rights ++ d ∷ []) (t.zeros u (omega arith)) in
      record { half = subst (Half marks bytes (u + 1) (m / 2) left) (sym e) (skip t.half lt o); whole = t.whole; zeros = λ k h. t.zeros k (omega arith) }

  pub turn_mark : u < 16 → m % 2 ≡ 1 → (b : ℕ) (rest : List ℕ) → left ≡ b ∷ rest → (b ≡ 0 → ⊥) → b < 128 → Turn marks bytes (u + 1) (m / 2) rest (set rights u b)
  turn_mark lt o b rest is some clear-b =
      let e = take_more_set rights u b (omega (arith, t.whole)) in
      record {
        half = subst (Half marks bytes (u + 1) (m / 2) rest) (sym e) (mark t.half lt o b rest is some clear-b);
        whole = length-set rights u b ∙ t.whole;
        zeros = λ k h. let ne : k ≢ u = omega arith in get_or-set_other rights u k b 0 ne ∙ t.zeros k (omega arith);
      }

  half_end : u ≡ 16 → Half marks bytes 16 m left rights
  half_end end = subst (λ P. Half marks bytes 16 m left P) (take_all 16 rights (omega (arith, t.whole))) (subst (λ k. Half marks bytes k m left (take k rights)) end t.half)

  -- after the last user: the rights are these where no byte is left, and there are none where some are
  pub turn_end : u ≡ 16 → MatchOption (then_some (eqb (length left) 0) rights) ((rs : List ℕ) → Marked marks bytes rs → ⊥) (Marked marks bytes)
  turn_end end = ended left rights (half_end end)

pub zeros_at : (n k : ℕ) → ◌≡◌ {A = ℕ} (get_or (replicate n 0) k 0) 0
zeros_at zero k = refl
zeros_at (suc n) zero = refl
zeros_at (suc n) (suc k) = zeros_at n k
