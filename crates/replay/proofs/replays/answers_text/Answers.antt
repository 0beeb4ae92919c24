use Rattle.std.proofs.Common.{string_bytes}
use Rattle.replay.proofs.Telling.{stepped}
use Rattle.replay.proofs.replays.answers_text.Goals as goal

pub loop-answer-preserved : goal.loop-answer-preserved
loop-answer-preserved c =
    stepped c.args.answers.now c.loop-answer.answer-index (string_bytes c.loop-answer.out) (string_bytes c.write.new.self) c.loop-answer-test.true c.loop-answer.invariant c.in_ok-write.ensures.bytes
