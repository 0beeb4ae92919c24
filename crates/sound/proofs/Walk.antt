-- The walk up from an object over the unmixed containers above it. Assumes nothing.
use Rattle.std.proofs.Common.{◌≡◌, ℕ, suc, ◌≤◌, ◌⊎◌, length, Some, Option, unwrap_or, sym, ap, ◌∙◌, subst, inl, inr}
use Rattle.std.proofs.lemmas.Bool.{cases_eq}
use Rattle.labels.specs.Meaning.{Meaning}
use Rattle.tables.specs.declared.types.Object.{Object}
use Rattle.tables.specs.declared.types.Tables.{Tables}
use Rattle.tables.specs.State.{object, object_at, blank_object}
use Rattle.tables.specs.Ways.{Under, Above}
use Rattle.tables.proofs.Climb.{WithinSteps, short_way, below_step, climb_found, climb_back, climb_on}
use Rattle.sound.specs.Nesting.{Unmixed, Holds, HeldAbove}

module _ (m : Meaning) (t : Tables) (l : ℕ) where
  -- a is no unmixed container, or holds l
  abbrev pub HeldAt : ℕ → Type 0
  HeldAt a = Unmixed t a → Holds m t a l

  -- what lies above p is held, or can still be met on the way up from here in k steps
  abbrev pub Left : ℕ → ℕ → ℕ → Type 0
  Left p here k = (a : ℕ) → Under t p a → HeldAt a ⊎ WithinSteps t.objects here a k

  pub left_start : (p : ℕ) → Left p p (length t.objects)
  left_start p a b = inr (short_way b)

  pub left_on : (p here : ℕ) (o : Object) → Some o ≡ object_at t here → (n k : ℕ) → n ≤ suc k → HeldAt o.parent → Left p here n → Left p o.parent k
  left_on p here o is n k few held left a b = elim (cases_eq o.parent a) [
    | inl e ↦ inl (subst HeldAt e held)
    | inr ne ↦ elim (left a b) [ inl h ↦ inl h | inr w ↦ inr (climb_on t.objects here o is a n k few ne w) ]
  ]

  -- once no way goes on, all is held
  pub left_none : (p here k : ℕ) → HeldAt p → Left p here k → ((a : ℕ) → WithinSteps t.objects here a k → ⊥) → HeldAbove m t p l
  left_none p here k held left over a (inl e) = subst HeldAt (sym e) held
  left_none p here k held left over a (inr b) = elim (left a b) [ inl h ↦ h | inr w ↦ absurd (over a w) ]

-- an object but the root lies under what is above its parent
module _ (t : Tables) (x : ℕ) (o : Object) (is : Some o ≡ object_at t x) (off : x ≡ 0 → ⊥) where
  pub above_under : (a : ℕ) → Above t o.parent a → Under t x a
  above_under a (inl e) = climb_found t.objects x o is off a (sym e)
  above_under a (inr b) = climb_back t.objects x o is off a b

  pub under_above : (a : ℕ) → Under t x a → Above t o.parent a
  under_above a b =
      let up : (object t x).parent ≡ o.parent = sym (ap (λ (y : Option Object). (unwrap_or y blank_object).parent) is) in
      elim (below_step b) [ inl e ↦ inl (sym e ∙ up) | inr c ↦ inr (subst (λ (w : ℕ). Under t w a) up c) ]
