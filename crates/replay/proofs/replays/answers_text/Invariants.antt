use Rattle.std.proofs.Common.{◌≡◌, take, string_bytes}
use Rattle.replay.specs.Cases.{answers_text}
use Rattle.replay.proofs.replays.answers_text.Given as goal

abbrev pub invariant-loop-answer : goal.invariant-loop-answer
invariant-loop-answer l = string_bytes l.out ≡ answers_text (take l.answer-index l.answers)
