use Rattle.std.proofs.lemmas.Result.{IfOk-weaker}
use Rattle.std.proofs.Common.{string_bytes}
use Rattle.transcript.proofs.Written.{printed}
use Rattle.transcript.proofs.runs.tell.Goals as goal

pub returns : goal.returns
returns g c =
    let m = g.S.Scheme.meaning c.args.guard.now.scheme in
    let r = c.run-outcome.result in
    let last = c.run-outcome.new in
    IfOk-weaker c.format.result _ _
    (λ s h. printed m c.args.roll.now c.args.calls.now r.answered r.end c.args.answers.now last.answers c.args.guard.now.tables last.guard.tables (string_bytes c.in_ok-lines.lines) (string_bytes c.in_ok-last.last) (string_bytes s)
    c.run-outcome.ensures.ran c.requires c.in_ok-lines.ensures c.in_ok-last.ensures h)
    c.format.ensures.ok
