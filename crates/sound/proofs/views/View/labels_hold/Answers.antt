use Rattle.std.proofs.Common.{◌≡◌, true, sym, ◌∙◌, rules}
use borrow.Author.Tests.{tests}
use Rattle.std.proofs.lemmas.Bool.{both_ways}
use Rattle.std.proofs.lemmas.Bool.Decides.{Decides-like}
use Rattle.tables.specs.declared.types.Subject.{Subject}
use Rattle.tables.specs.declared.types.Object.{Object}
use Rattle.tables.specs.State.{blank_user, blank_subject, blank_object}
use Rattle.tables.proofs.Chains.{Decides-all_slots, YieldsList-from_slots}
use Rattle.sound.specs.Sound.{RangeStands}
use Rattle.sound.proofs.views.View.labels_hold.Goals as goal
use Rattle.sound.proofs.views.View.labels_hold.Goals.{then-all, else-all}

pub returns-then-all-2 : goal.returns-then-all-2
returns-then-all-2 g c =
    let m = g.S.Scheme.meaning c.args.self.now.scheme.now in
    let t = c.args.self.now.tables.now in
    elim c.if-all.branch [
      | then-all w ↦ (
          let users = Decides-all_slots _ _ t.users blank_user _ (RangeStands m) c.all.ensures.ran
          (YieldsList-from_slots _ t.users (λ x j b. (b.0, b.1)) (cc) (cc) (cc) cc) (λ x q k. search (rules, tests)) (λ x q k. search (rules, tests)) in
          let subjects = Decides-all_slots _ _ t.subjects blank_subject _ (λ (x : Subject). m.label x.label ≡ true) w.all-then-all.ensures.ran
          (YieldsList-from_slots _ t.subjects (λ x j b. (b.0, b.1)) (cc) (cc) (cc) cc) (λ x q k. search (rules, tests)) (λ x q k. search (rules, tests)) in
          Decides-like _ (λ objects. record { users = users.0 w.if-all.true; subjects = subjects.0 (sym w.value-is ∙ c.if-all-2.true); objects = objects }) (λ h. h.objects)
          (Decides-all_slots _ _ t.objects blank_object _ (λ (x : Object). m.label x.label ≡ true) c.all-then-all-2.ensures.ran
          (YieldsList-from_slots _ t.objects (λ x j b. (b.0, b.1)) (cc) (cc) (cc) cc) (λ x q k. search (rules, tests)) (λ x q k. search (rules, tests))))
      | else-all w ↦ absurd (both_ways _ w.if-all.false (sym w.value-is ∙ c.if-all-2.true))
    ]

pub returns-else-all-2 : goal.returns-else-all-2
returns-else-all-2 g c =
    let m = g.S.Scheme.meaning c.args.self.now.scheme.now in
    let t = c.args.self.now.tables.now in (
      (λ e. absurd (both_ways _ c.if-all-2.false e)),
      λ h. elim c.if-all.branch [
        | then-all w ↦ (
            let subjects = Decides-all_slots _ _ t.subjects blank_subject _ (λ (x : Subject). m.label x.label ≡ true) w.all-then-all.ensures.ran
            (YieldsList-from_slots _ t.subjects (λ x j b. (b.0, b.1)) (cc) (cc) (cc) cc) (λ x q k. search (rules, tests)) (λ x q k. search (rules, tests)) in
            w.value-is ∙ subjects.1 h.subjects)
        | else-all w ↦ (
            let users = Decides-all_slots _ _ t.users blank_user _ (RangeStands m) c.all.ensures.ran
            (YieldsList-from_slots _ t.users (λ x j b. (b.0, b.1)) (cc) (cc) (cc) cc) (λ x q k. search (rules, tests)) (λ x q k. search (rules, tests)) in
            w.value-is ∙ users.1 h.users)
      ],
    )
