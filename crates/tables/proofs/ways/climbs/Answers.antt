use Rattle.std.proofs.Common.{◌≡◌, ◌+◌, ◌-◌, length, get_or, Some, None, refl, arith}
use Rattle.std.proofs.lemmas.Bool.{false≢true}
use Rattle.tables.proofs.Climb.{short_way, climb_found, climb_back, climb_on, no_steps}
use Rattle.tables.proofs.ways.climbs.Goals as goal

pub loop-step-init : goal.loop-step-init
loop-step-init c = ((λ b. let s = short_way b in (s.0, (let h = s.1 in omega arith))), λ b. b)

pub returns-then-object-p : goal.returns-then-object-p
returns-then-object-p c =
    let os = c.args.objects.now in
    let at = c.loop-step.at in
    let is : Some c.in-Some.object.now ≡ get_or os at None = c.in-Some.ensures in
    ((λ _. c.loop-step.invariant.1 (climb_found os at c.in-Some.object.now is c.if-at-eq0.false c.args.p c.if-object-p.true)), λ _. refl)

pub loop-step-preserved : goal.loop-step-preserved
loop-step-preserved c =
    let os = c.args.objects.now in
    let at = c.loop-step.at in
    let step = c.loop-step._step in
    let is : Some c.in-Some.object.now ≡ get_or os at None = c.in-Some.ensures in (
      (λ b. climb_on os at c.in-Some.object.now is c.args.p (length os - step) (length os - (step + 1)) (omega arith) c.if-object-p.false (c.loop-step.invariant.0 b)),
      λ b. c.loop-step.invariant.1 (climb_back os at c.in-Some.object.now is c.if-at-eq0.false c.args.p b),
    )

pub returns : goal.returns
returns c = ((λ e. absurd (false≢true e)), λ b. absurd (no_steps (length c.args.objects.now - c.loop-step._step) (omega arith) (c.loop-step.invariant.0 b)))
