use Rattle.std.proofs.Common.{◌≡◌, ℕ, not, ◌&&◌, eqb, sym, ap, ◌∙◌, subst, inl, inr, rules}
use borrow.Author.Tests.{tests}
use Rattle.std.proofs.lemmas.Bool.{and_parts, and_from, cases_eq, ne_eqb}
use Rattle.tables.specs.Sets.{has}
use Rattle.tables.proofs.rights.shares.Invariants.{RoleGives}
use Rattle.tables.proofs.rights.shares.Goals as goal

pub loop-g-preserved : goal.loop-g-preserved
loop-g-preserved c =
    let g = c.in-Some.g in
    let before = c.loop-g.both.0 in
    let t = c.in-Some.ensures in
    let left : (j : ℕ) → has c.take_lowest.new.self.0 j ≡ (not (eqb j g) && has before j) = t.left in
    let gives_not : RoleGives c.args.roles.now c.args.right g → ⊥ = search (rules, tests) in (
      λ j h. c.loop-g.invariant.0 j (and_parts (not (eqb j g)) (has before j) (sym (left j) ∙ h)).1,
      λ j a b. elim (c.loop-g.invariant.1 j a b) [
        | inl on ↦ elim (cases_eq j g) [
          | inl same ↦ inr (λ gives. gives_not (subst (RoleGives c.args.roles.now c.args.right) same gives))
          | inr other ↦ inl (left j ∙ and_from (not (eqb j g)) (has before j) (ap not (ne_eqb j g other)) on)
        ]
        | inr off ↦ inr off
      ],
    )
