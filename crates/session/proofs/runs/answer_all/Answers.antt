use Rattle.std.proofs.Common.{◌≡◌, ℕ, length, set, sym, refl, ap, ◌∙◌, subst, arith, rules}
use Rattle.byte_cursor.specs.Bytes.{left, Took}
use Rattle.stream.specs.Forms.{InForm, encode}
use Rattle.stream.specs.Faults.{Faulty}
use Rattle.histories.specs.Kept.{Kept}
use Rattle.monitor.specs.Decides.{Decided}
use Rattle.session.proofs.Goings.{going_start, room, going_more, going_done, going_bad}
use Rattle.session.proofs.runs.answer_all.Goals as goal

pub loop-next-init : goal.loop-next-init
loop-next-init g c =
    (going_start (g.S.Scheme.meaning c.args.guard.now.scheme) c.args.guard.now.tables c.args.calls.now c.args.answers.now c.new-c.result c.new-c.ensures.bytes c.new-c.ensures.place, refl)

pub bounds-answers-answered : goal.bounds-answers-answered
bounds-answers-answered g c =
    let t = c.in-Some.ensures.next in
    let k : InForm c.in-Ok.call × Took c.loop-next.c c.next_call.new.c (encode c.in-Ok.call) = rw c.in-Ok.is at t.1 in
    let h = room c.loop-next.invariant.0 c.in-Ok.call k.1 c.requires in
    let same : length c.loop-next.answers ≡ length c.args.answers.now = c.loop-next.auto.answers in
    omega arith

pub overflow_add-answered : goal.overflow_add-answered
overflow_add-answered g c =
    let t = c.in-Some.ensures.next in
    let k : InForm c.in-Ok.call × Took c.loop-next.c c.next_call.new.c (encode c.in-Ok.call) = rw c.in-Ok.is at t.1 in
    let h = room c.loop-next.invariant.0 c.in-Ok.call k.1 c.requires in
    search (rules, h)

pub loop-next-preserved : goal.loop-next-preserved
loop-next-preserved g c =
    let t = c.in-Some.ensures.next in
    let x = c.in-Ok.call in
    let k : InForm x × Took c.loop-next.c c.next_call.new.c (encode x) = rw c.in-Ok.is at t.1 in
    let go = c.loop-next.invariant.0 in
    let h = room go x k.1 c.requires in
    let done = subst (λ s. Decided (g.S.Scheme.meaning s) c.loop-next.guard.tables x c.call-answer.result c.call-answer.new.self.tables) c.loop-next.invariant.1 c.call-answer.ensures.takes.decided in (
      going_more go x c.call-answer.result k.0 k.1 done h (ap (λ (v : ℕ). set c.loop-next.answers c.loop-next.answered v) c.number_of.ensures),
      c.call-answer.ensures.takes.scheme ∙ c.loop-next.invariant.1,
    )

pub returns-in-Err : goal.returns-in-Err
returns-in-Err g c =
    let t = c.in-Some.ensures.next in
    let a = c.loop-next.c in
    let w : Faulty a.place (left a) c.in-Err.fault = rw c.in-Err.is at t.1 in
    record { ran = going_bad c.loop-next.invariant.0 c.in-Err.fault t.0 w; kept = λ k. subst (λ s. Kept (g.S.Scheme.meaning s) c.loop-next.guard.tables) (sym c.loop-next.invariant.1) (c.loop-next.invariant.0.kept k); scheme = c.loop-next.invariant.1 }

pub returns : goal.returns
returns g c = record { ran = going_done c.loop-next.invariant.0 c.in_default.ensures.next.0; kept = λ k. subst (λ s. Kept (g.S.Scheme.meaning s) c.loop-next.guard.tables) (sym c.loop-next.invariant.1) (c.loop-next.invariant.0.kept k); scheme = c.loop-next.invariant.1 }
