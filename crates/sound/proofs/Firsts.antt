-- The clauses in their order: which hold before the first that fails, and that there is one first. Assumes nothing.
use Rattle.std.proofs.Common.{◌≡◌, ℕ, zero, suc, ◌+◌, ◌<◌, List, [], ◌∷◌, get_or, Some, None, Option, sym, refl, ap, ◌∙◌, subst, inl, inr, arith, MatchOption}
use Rattle.std.proofs.lemmas.Bool.{cases_order}
use Rattle.std.specs.List.{AllWithin, HoldsAt}
use Rattle.labels.specs.Meaning.{Meaning}
use Rattle.tables.specs.declared.types.Tables.{Tables}
use Rattle.sound.specs.Nesting.{Nested}
use Rattle.sound.specs.Sound.{Holding, number, Sound, FirstFailing, Grouped, Labelled, Rooted, Owned, Listed, Administered, MixedApart}
use Rattle.sound.specs.declared.clauses.Clause.{Clause}
use Rattle.sound.specs.declared.clauses.Clause.TheVariants.{Groups, Labels, Tree, Owners, Lists, Administrator, Nesting, Mixed}

-- the clauses in their order
abbrev pub every_clause : List Clause
every_clause = Groups ∷ Labels ∷ Tree ∷ Owners ∷ Lists ∷ Administrator ∷ Nesting ∷ Mixed ∷ []

-- where a clause stands among them
record Place (c : Clause) : Type 0 where
  at : ℕ
  near : at < 8
  is : get_or every_clause at Groups ≡ c
  number_is : number c ≡ at + 1

place : (c : Clause) → Place c
place Groups = record { at = 0; near = omega arith; is = refl; number_is = refl }
place Labels = record { at = 1; near = omega arith; is = refl; number_is = refl }
place Tree = record { at = 2; near = omega arith; is = refl; number_is = refl }
place Owners = record { at = 3; near = omega arith; is = refl; number_is = refl }
place Lists = record { at = 4; near = omega arith; is = refl; number_is = refl }
place Administrator = record { at = 5; near = omega arith; is = refl; number_is = refl }
place Nesting = record { at = 6; near = omega arith; is = refl; number_is = refl }
place Mixed = record { at = 7; near = omega arith; is = refl; number_is = refl }

-- two clauses with one place are the same
pub same_number : (c d : Clause) → number c ≡ number d → c ≡ d
same_number c d e =
    let p = place c in
    let q = place d in
    let same : p.at ≡ q.at = (let m = p.number_is in let n = q.number_is in omega arith) in
    sym p.is ∙ ap (λ i. get_or every_clause i Groups) same ∙ q.is

-- the clause that stands at i has the number i + 1
number_at : (i : ℕ) (d : Clause) → i < 8 → number (get_or every_clause i d) ≡ i + 1
number_at zero d h = refl
number_at (suc zero) d h = refl
number_at (suc (suc zero)) d h = refl
number_at (suc (suc (suc zero))) d h = refl
number_at (suc (suc (suc (suc zero)))) d h = refl
number_at (suc (suc (suc (suc (suc zero))))) d h = refl
number_at (suc (suc (suc (suc (suc (suc zero)))))) d h = refl
number_at (suc (suc (suc (suc (suc (suc (suc zero))))))) d h = refl
number_at (suc (suc (suc (suc (suc (suc (suc (suc i)))))))) d h = absurd (omega arith)

module _ (m : Meaning) (t : Tables) where
  abbrev Held : Clause → Type 0
  Held c = Holding c m t

  -- the first clause in their order that fails fails first, and if none does the tables are sound
  pub first_from_order : (r : Option Clause)
      → MatchOption r (AllWithin Held every_clause 0 8) (λ c. (Held c → ⊥) × (i : ℕ) × (i < 8) × HoldsAt (λ d. d ≡ c) every_clause i × AllWithin Held every_clause 0 i)
      → MatchOption r (Sound m t) (FirstFailing m t)
  first_from_order None all = λ c. let p = place c in subst Held p.is (all p.at Groups (omega arith) p.near)
  first_from_order (Some c) first = record {
    before = λ d less.
        let p = place d in
        let n : number c ≡ first.1 + 1 = sym (ap number (first.3 c)) ∙ number_at first.1 c first.2 in
        subst Held p.is (first.4 p.at Groups (omega arith) (let k = p.number_is in omega arith));
    fails = first.0;
  }

  -- two clauses that both fail first are the same
  pub first_unique : {c d : Clause} → FirstFailing m t c → FirstFailing m t d → c ≡ d
  first_unique {c} {d} f g = elim (cases_order (number c) (number d)) [
    | inl e ↦ same_number c d e
    | inr o ↦ elim o [ inl h ↦ absurd (f.fails (g.before c h)) | inr h ↦ absurd (g.fails (f.before d h)) ]
  ]

  -- in sound tables none fails first
  pub first_unsound : {c : Clause} → FirstFailing m t c → Sound m t → ⊥
  first_unsound {c} f s = f.fails (s c)

  -- an answer that names the first clause that fails, or none if the tables are sound, is the only one
  pub sound_none : (r : Option Clause) → MatchOption r (Sound m t) (FirstFailing m t) → Sound m t → r ≡ None
  sound_none None h s = refl
  sound_none (Some c) h s = absurd (first_unsound h s)

  pub first_some : (r : Option Clause) {c : Clause} → MatchOption r (Sound m t) (FirstFailing m t) → FirstFailing m t c → r ≡ Some c
  first_some None s f = absurd (first_unsound f s)
  first_some (Some d) g f = ap Some (first_unique g f)

  -- the eight clauses make the tables sound
  pub sound_from : Grouped t → Labelled m t → Rooted t → Owned t → Listed t → Administered t → Nested m t → MixedApart t → Sound m t
  sound_from a b c d e f g h Groups = a
  sound_from a b c d e f g h Labels = b
  sound_from a b c d e f g h Tree = c
  sound_from a b c d e f g h Owners = d
  sound_from a b c d e f g h Lists = e
  sound_from a b c d e f g h Administrator = f
  sound_from a b c d e f g h Nesting = g
  sound_from a b c d e f g h Mixed = h
