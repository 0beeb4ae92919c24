use Rattle.std.proofs.Common.{string_bytes, subst}
use Rattle.std.proofs.lemmas.Result.{IfOk-weaker}
use Rattle.labels.specs.Meaning.{Meaning}
use Rattle.transcript.specs.Printed.{Printed}
use Rattle.transcript.proofs.runs.house_transcript.Goals as goal

pub returns : goal.returns
returns c =
    IfOk-weaker c.transcript.result _ _
    (λ s h. subst (λ (m : Meaning). Printed m c.args.roll.now c.args.calls.now (string_bytes s)) c.house_label.ensures.meaning h)
    c.transcript.ensures
