use Rattle.std.proofs.Common.{◌≡◌, ◌+◌, ◌-◌, length, Some, refl, inr, arith}
use Rattle.std.proofs.lemmas.Bool.{both_ways}
use Rattle.tables.specs.State.{object_at}
use Rattle.tables.proofs.Climb.{short_way, climb_found, climb_back, no_steps}
use Rattle.sound.proofs.Every.{yes, no}
use Rattle.sound.proofs.Walk.{left_on, left_none}
use Rattle.sound.proofs.views.View.held_above.Goals as goal

pub loop-step-init : goal.loop-step-init
loop-step-init g c = (c.held_at.ensures.0 c.if-not-held_at.false, (λ a b. let s = short_way b in inr (s.0, (let h = s.1 in omega arith))), λ a b. b)

pub returns-then-not-held_at-2 : goal.returns-then-not-held_at-2
returns-then-not-held_at-2 g c =
    let t = c.args.self.now.tables.now in
    let at = c.loop-step.at in
    let o = c.in-Some.object.now in
    let is : Some o ≡ object_at t at = c.in-Some.ensures in
    let up = climb_found t.objects at o is c.if-at-eq0.false o.parent refl in
    no (λ all. both_ways c.held_at-in-loop-step.result c.if-not-held_at-2.true (c.held_at-in-loop-step.ensures.1 (all o.parent (inr (c.loop-step.invariant.2 o.parent up)))))

pub loop-step-preserved : goal.loop-step-preserved
loop-step-preserved g c =
    let t = c.args.self.now.tables.now in
    let m = g.S.Scheme.meaning c.args.self.now.scheme.now in
    let at = c.loop-step.at in
    let step = c.loop-step._step in
    let o = c.in-Some.object.now in
    let is : Some o ≡ object_at t at = c.in-Some.ensures in
    let i = c.loop-step.invariant in (
      i.0,
      left_on m t c.args.l c.args.p at o is (length t.objects - step) (length t.objects - (step + 1)) (omega arith) (c.held_at-in-loop-step.ensures.0 c.if-not-held_at-2.false) i.1,
      λ a b. i.2 a (climb_back t.objects at o is c.if-at-eq0.false a b),
    )

pub returns : goal.returns
returns g c =
    let i = c.loop-step.invariant in
    let k = length c.args.self.now.tables.now.objects - c.loop-step._step in
    yes (left_none (g.S.Scheme.meaning c.args.self.now.scheme.now) c.args.self.now.tables.now c.args.l c.args.p c.loop-step.at k i.0 i.1 (λ a w. no_steps k (omega arith) w))
