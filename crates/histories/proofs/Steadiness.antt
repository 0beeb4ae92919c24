-- A guard's tables are steady when they are blank or loaded, and stay so from call to call. Assumes nothing.
use Rattle.std.proofs.Common.{◌≡◌, ℕ, zero, suc, false, List, [], ◌∷◌, get_or, replicate, is_some, None, Ok, Option, sym, refl, ap, ◌∙◌, subst, inl, inr}
use Rattle.std.proofs.lemmas.Bool.{both_ways}
use Rattle.labels.specs.Meaning.{Meaning, Lawful}
use Rattle.tables.specs.declared.types.Subject.{Subject}
use Rattle.tables.specs.declared.types.Tables.{Tables}
use Rattle.tables.specs.State.{blank, has_subject}
use Rattle.sound.specs.Sound.{Sound}
use Rattle.records.specs.declared.forms.Record.{Record}
use Rattle.records.specs.declared.forms.Record.TheVariants as record_of
use Rattle.roll.specs.Formed.{Formed}
use Rattle.roll.specs.Rolls.{Says, tables_from, put_in}
use Rattle.roll.proofs.Trips.{taken_formed}
use Rattle.calls.specs.declared.types.Call.{Call}
use Rattle.calls.specs.Calls.{Answer}
use Rattle.calls.specs.Effects.{after}
use Rattle.histories.specs.Kept.{Kept}
use Rattle.histories.proofs.Wholes.{Loaded, Whole}
use Rattle.histories.proofs.Promised.{whole_loaded, whole_after, blank_refused}
use Rattle.histories.proofs.Forms.{formed_on}

none_at : (n i : ℕ) → is_some (get_or {A = Option Subject} (replicate n None) i None) ≡ false
none_at zero i = refl
none_at (suc n) zero = refl
none_at (suc n) (suc i) = none_at n i

put_alone : (t : Tables) (x : Record) → (put_in t x).subjects ≡ t.subjects
put_alone t (record_of.User u) = refl
put_alone t (record_of.Group g) = refl
put_alone t (record_of.Object o) = refl

-- a roll has no subjects
said_alone : (t : Tables) (rs : List Record) → (tables_from t rs).subjects ≡ t.subjects
said_alone t [] = refl
said_alone t (x ∷ rs) = said_alone (put_in t x) rs ∙ put_alone t x

-- tables that a roll said
pub said_formed : (bytes : List ℕ) (t : Tables) → Says bytes (Ok t) → Formed t
said_formed bytes t (rs, roll, e, is) = subst Formed (sym is) (taken_formed rs roll)

pub said_loaded : (m : Meaning) (bytes : List ℕ) (t : Tables) → Says bytes (Ok t) → Sound m t → Loaded m t
said_loaded m bytes t said sound = record { sized = (said_formed bytes t said).sized; sound = sound; alone = alone }
  where
    alone : (s : ℕ) → has_subject t s ≡ false
    alone s =
        ap (λ (u : Tables). has_subject u s) said.3 ∙ ap (λ (l : List (Option Subject)). is_some (get_or l s None)) (said_alone blank said.0) ∙ none_at 32 s

pub blank_formed : Formed blank
blank_formed = taken_formed [] (record { forms = tt; rises = tt })

pub steady_blank : (m : Meaning) → Kept m blank
steady_blank m = record {
  formed = blank_formed;
  either = inl refl;
  peopled = λ s h. absurd (both_ways (has_subject blank s) (none_at 32 s) h);
  ranged = λ s h. absurd (both_ways (has_subject blank s) (none_at 32 s) h);
}

steady_whole : (m : Meaning) (t : Tables) → Formed t → Whole m t → Kept m t
steady_whole m t formed w = record { formed = formed; either = inr w.sound; peopled = w.peopled; ranged = w.ranged }

pub steady_said : (m : Meaning) (bytes : List ℕ) (t : Tables) → Says bytes (Ok t) → Sound m t → Kept m t
steady_said m bytes t said sound = steady_whole m t (said_formed bytes t said) (whole_loaded m t (said_loaded m bytes t said sound))

formed_after : (m : Meaning) → Lawful m → (t : Tables) (c : Call) (a : ℕ) → Formed t → Whole m t → Answer m t c a → Formed (after t c a)
formed_after m laws t c zero formed w fine = formed_on m laws t formed w.peopled c fine (whole_after m laws t c 0 w fine).sized
formed_after m laws t c (suc a) formed w ans = formed

-- whatever the call and its answer
pub steady_after : (m : Meaning) → Lawful m → (t : Tables) (c : Call) (a : ℕ) → Answer m t c a → Kept m t → Kept m (after t c a)
steady_after m laws t c a ans s = elim s.either [
  | inl none ↦ subst (λ (u : Tables). Answer m u c a → Kept m (after u c a)) (sym none) (λ b. subst (Kept m) (sym (blank_refused m c a b)) (steady_blank m)) ans
  | inr sound ↦
      (let w : Whole m t = record { sized = s.formed.sized; sound = sound; peopled = s.peopled; ranged = s.ranged } in
      steady_whole m (after t c a) (formed_after m laws t c a s.formed w ans) (whole_after m laws t c a w ans))
]
