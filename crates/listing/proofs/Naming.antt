-- Words behind a text.
use Rattle.std.proofs.Common.{◌≡◌, ℕ, suc, ◌+◌, ◌<◌, get_or, drop, drop-cons, add-one, Bool, true, false, cond, List, [], ◌∷◌, ◌++◌, length, codes, decimal, sym, refl, ap, ◌∙◌, arith}
use Rattle.tables.specs.declared.sets.Right.{Right}
use Rattle.tables.specs.declared.sets.Right.TheVariants as right
use Rattle.tables.specs.Sets.{has}
use Rattle.listing.specs.Listed.{member_text, naming, or_none}

pub none_said : (xs : List ℕ) → length xs ≡ 0 → xs ++ codes "no rights" ≡ or_none xs
none_said [] e = refl
none_said (x ∷ xs) e = absurd (omega arith)

pub some_said : (xs : List ℕ) → (length xs ≡ 0 → ⊥) → xs ≡ or_none xs
some_said [] ne = absurd (ne refl)
some_said (x ∷ xs) ne = refl

-- a number of a set is said, or passed over
pub member_said : (set k : ℕ) {b : Bool} → b ≡ has set k → b ≡ true → member_text set k ≡ codes " " ++ decimal k
member_said set k e t = ap (λ (z : Bool). cond z (codes " " ++ decimal k) []) (sym e ∙ t)

pub member_passed : (set k : ℕ) {b : Bool} → b ≡ has set k → b ≡ false → member_text set k ≡ []
member_passed set k e f = ap (λ (z : Bool). cond z (codes " " ++ decimal k) []) (sym e ∙ f)

abbrev pub rights : List Right
rights = right.Read ∷ right.Write ∷ right.Create ∷ right.Delete ∷ right.ChangeRights ∷ right.Execute ∷ right.WriteAttributes ∷ []

-- the rights of a set behind a text, one after another
abbrev pub named : ℕ → List Right → List ℕ → List ℕ
named set [] text = text
named set (r ∷ rs) text = named set rs (naming set text r)

pub named_next : (set k : ℕ) (rs : List Right) (d : Right) (before after all : List ℕ) → k < length rs → after ≡ naming set before (get_or rs k d) → named set (drop k rs) before ≡ all → named set (drop (k + 1) rs) after ≡ all
named_next set k rs d before after all h is e =
    let next : drop k rs ≡ get_or rs k d ∷ drop (suc k) rs = drop-cons rs k d h in
    rw (is, add-one) (sym (ap (λ ts. named set ts before) next) ∙ e)

pub named_all : (set k : ℕ) (text : List ℕ) → k ≡ 7 → named set (drop k rights) text ≡ named set rights [] → text ≡ named set rights []
named_all set k text all e = sym (ap (λ (i : ℕ). named set (drop i rights) text) all) ∙ e
