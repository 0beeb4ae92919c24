use Rattle.std.proofs.Common.{string_bytes, ap, ◌∙◌, take_all}
use Rattle.transcript.specs.Printed.{lines_from}
use Rattle.transcript.proofs.Written.{stepped}
use Rattle.transcript.proofs.lines.answer_lines.Goals as goal

pub loop-place-init : goal.loop-place-init
loop-place-init c = c.new-out.ensures.bytes

pub loop-place-preserved : goal.loop-place-preserved
loop-place-preserved c =
    stepped c.args.answers.now c.loop-place.place-counter (string_bytes c.loop-place.out) (string_bytes c.write.new.self) c.loop-place-test.true c.loop-place.invariant c.in_ok-write.ensures.bytes

pub returns : goal.returns
returns c = c.loop-place.invariant ∙ ap (lines_from 0) (take_all c.loop-place.place-counter c.args.answers.now c.loop-place-test.false)
