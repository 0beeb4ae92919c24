-- Ways up: an object that lies under p does so by a way that visits no slot twice. Assumes nothing.
use Rattle.std.proofs.Common.{◌≡◌, ℕ, zero, suc, ◌<◌, ◌≤◌, Bool, true, false, ◌⊎◌, List, [], ◌∷◌, length, get_or, set, replicate, is_some, Some, None, Option, unwrap_or, sym, refl, ap, ◌∙◌, subst, inl, inr, zero-le, arith}
use lib.ListN.{length-replicate, get_or-replicate}
use Rattle.std.proofs.lemmas.Bool.{true≢false, false≢true, cases_eq}
use Rattle.std.proofs.lemmas.List.{get_or-set_other}
use Rattle.tables.specs.declared.types.Object.{Object}
use Rattle.tables.specs.State.{blank_object}
use Rattle.tables.specs.Ways.{Below, child, deeper, parent_of}
use Rattle.tables.proofs.Puts.{within}

-- a table of objects
abbrev pub Objects : Type 0
Objects = List (Option Object)

-- the object that a way begins at is there
pub below_here : {os : Objects} {x p : ℕ} → Below os x p → is_some (get_or os x None) ≡ true
below_here (child h n e) = h
below_here (deeper h n e b) = h

-- and is not the root
pub below_off_root : {os : Objects} {x p : ℕ} → Below os x p → x ≡ 0 → ⊥
below_off_root (child h n e) = n
below_off_root (deeper h n e b) = n

-- and its number is within the table
pub below_within : {os : Objects} {x p : ℕ} → Below os x p → x < length os
below_within {os} {x} b = within os x (below_here b)

-- one more step at the top
pub below_more : {os : Objects} {x y z : ℕ} → Below os x y → is_some (get_or os y None) ≡ true → (y ≡ 0 → ⊥) → parent_of os y ≡ z → Below os x z
below_more (child h n e) hy ny ey = deeper h n e (child hy ny ey)
below_more (deeper h n e b) hy ny ey = deeper h n e (below_more b hy ny ey)

-- what lies under something that lies under p lies under p
pub below_trans : {os : Objects} {x y z : ℕ} → Below os x y → Below os y z → Below os x z
below_trans (child h n e) c = deeper h n e c
below_trans (deeper h n e b) c = deeper h n e (below_trans b c)

-- the first step of a way: to p, or to a parent that lies under p
pub below_step : {os : Objects} {x p : ℕ} → Below os x p → (parent_of os x ≡ p) ⊎ Below os (parent_of os x) p
below_step (child h n e) = inl e
below_step {os} {p = p} (deeper h n e b) = inr (subst (λ (w : ℕ). Below os w p) (sym e) b)

-- where each parent is an object, so is what another lies under
pub below_target : {os : Objects} → ((y : ℕ) → is_some (get_or os y None) ≡ true → is_some (get_or os (parent_of os y) None) ≡ true) → {x p : ℕ} → Below os x p → is_some (get_or os p None) ≡ true
below_target {os} parents (child {x} h n e) = subst (λ (w : ℕ). is_some (get_or os w None) ≡ true) e (parents x h)
below_target parents (deeper h n e b) = below_target parents b

-- the steps of a way
abbrev pub steps : {os : Objects} {x p : ℕ} → Below os x p → ℕ
steps (child h n e) = 1
steps (deeper h n e b) = suc (steps b)

-- how many slots are not marked
abbrev unmarked : List Bool → ℕ
unmarked [] = 0
unmarked (true ∷ ms) = unmarked ms
unmarked (false ∷ ms) = suc (unmarked ms)

mark : (ms : List Bool) (x : ℕ) → get_or ms x true ≡ false → unmarked ms ≡ suc (unmarked (set ms x true))
mark [] x e = absurd (true≢false e)
mark (true ∷ ms) zero e = absurd (true≢false e)
mark (false ∷ ms) zero e = refl
mark (true ∷ ms) (suc x) e = mark ms x e
mark (false ∷ ms) (suc x) e = ap suc (mark ms x e)

unmarked_le : (ms : List Bool) → unmarked ms ≤ length ms
unmarked_le [] = zero-le
unmarked_le (true ∷ ms) = let h = unmarked_le ms in omega arith
unmarked_le (false ∷ ms) = let h = unmarked_le ms in omega arith

-- no slot on the way is marked
abbrev Free : {os : Objects} {x p : ℕ} → List Bool → Below os x p → Type 0
Free ms (child {x} h n e) = get_or ms x true ≡ false
Free ms (deeper {x} h n e b) = (get_or ms x true ≡ false) × Free ms b

-- the way from x that a way through x ends with
record Rest {os : Objects} {y p : ℕ} (ms : List Bool) (x : ℕ) (b : Below os y p) : Type 0 where
  way : Below os x p
  short : steps way ≤ steps b
  free : Free ms b → Free ms way

whole : {os : Objects} {y p : ℕ} (ms : List Bool) (b : Below os y p) → Rest ms y b
whole ms b = record { way = b; short = omega arith; free = λ f. f }

-- a way comes through x, or still has no marked slot once x is marked
through : {os : Objects} {y p : ℕ} (ms : List Bool) (x : ℕ) (b : Below os y p) → Rest ms x b ⊎ (Free ms b → Free (set ms x true) b)
through {os} {y} {p} ms x (child h n e) = elim (cases_eq y x) [
  | inl same ↦ inl (subst (λ (w : ℕ). Rest {os = os} {y = y} {p = p} ms w (child h n e)) same (whole ms (child h n e)))
  | inr ne ↦ inr (λ f. get_or-set_other ms x y true true ne ∙ f)
]
through {os} {y} {p} ms x (deeper h n e b) = elim (cases_eq y x) [
  | inl same ↦ inl (subst (λ (w : ℕ). Rest {os = os} {y = y} {p = p} ms w (deeper h n e b)) same (whole ms (deeper h n e b)))
  | inr ne ↦ elim (through ms x b) [
    | inl r ↦ inl (record { way = r.way; short = (let k = r.short in omega arith); free = λ f. r.free f.1 })
    | inr g ↦ inr (λ f. (get_or-set_other ms x y true true ne ∙ f.0, g f.1))
  ]
]

-- a way with at most k steps
abbrev pub WithinSteps : Objects → ℕ → ℕ → ℕ → Type 0
WithinSteps os x p k = (b : Below os x p) × (steps b ≤ k)

-- a way over unmarked slots can be had in no more steps than there are unmarked slots
shorten : {os : Objects} (n : ℕ) (ms : List Bool) {x p : ℕ} (b : Below os x p) → steps b ≤ n → Free ms b → WithinSteps os x p (unmarked ms)
shorten n ms {x} (child h nz e) le free = (child h nz e, (let k = mark ms x free in omega arith))
shorten zero ms (deeper h nz e b) le free = absurd (omega arith)
shorten (suc n) ms {x} (deeper h nz e b) le free = elim (through ms x b) [
  | inl r ↦ shorten n ms r.way (let k = r.short in omega arith) (r.free free.1)
  | inr g ↦ (
      let s = shorten n (set ms x true) b (omega arith) (g free.1) in
      (deeper h nz e s.0, (let k = mark ms x free.0 in let i = s.1 in omega arith)))
]

all_free : {os : Objects} {x p : ℕ} (b : Below os x p) → Free (replicate (length os) false) b
all_free {os} {x} (child h n e) = get_or-replicate (length os) x false true (within os x h)
all_free {os} {x} (deeper h n e b) = (get_or-replicate (length os) x false true (within os x h), all_free b)

-- what lies under p does so by a way of no more steps than the table has slots
pub short_way : {os : Objects} {x p : ℕ} → Below os x p → WithinSteps os x p (length os)
short_way {os} b =
    let ms : List Bool = replicate (length os) false in
    let s = shorten (steps b) ms b (omega arith) (all_free b) in
    let bound : unmarked ms ≤ length ms = unmarked_le ms in
    let size : length ms ≡ length os = length-replicate (length os) false in
    (s.0, (let i = s.1 in omega arith))

-- one step of a walk: at an object x with the value o
module _ (os : Objects) (x : ℕ) (o : Object) (is : Some o ≡ get_or os x None) where
  above : parent_of os x ≡ o.parent
  above = sym (ap (λ (y : Option Object). (unwrap_or y blank_object).parent) is)

  pub climb_found : (x ≡ 0 → ⊥) → (p : ℕ) → o.parent ≡ p → Below os x p
  climb_found nz p e = child (sym (ap is_some is)) nz (above ∙ e)

  pub climb_back : (x ≡ 0 → ⊥) → (p : ℕ) → Below os o.parent p → Below os x p
  climb_back nz p b = deeper (sym (ap is_some is)) nz above b

  pub climb_on : (p m k : ℕ) → m ≤ suc k → (o.parent ≡ p → ⊥) → WithinSteps os x p m → WithinSteps os o.parent p k
  climb_on p m k few ne (b, le) = go b le refl
    where
      go : {y : ℕ} (c : Below os y p) → steps c ≤ m → y ≡ x → WithinSteps os o.parent p k
      go (child h n e) l same = absurd (ne (sym (ap (parent_of os) same ∙ above) ∙ e))
      go (deeper h n e c) l same = subst (λ (v : ℕ). WithinSteps os v p k) (sym e ∙ ap (parent_of os) same ∙ above) (c, omega arith)

-- no way has no step
pub no_steps : {os : Objects} {x p : ℕ} (k : ℕ) → k ≤ 0 → WithinSteps os x p k → ⊥
no_steps k none (child h n e, le) = omega arith
no_steps k none (deeper h n e b, le) = omega arith

-- nothing lies anywhere from an empty slot
pub empty_off : {os : Objects} {x p : ℕ} → None ≡ get_or os x None → Below os x p → ⊥
empty_off e b = false≢true (ap is_some e ∙ below_here b)
