use Rattle.std.proofs.Common.{◌≡◌, take, string_bytes}
use Rattle.transcript.specs.Printed.{lines_from}
use Rattle.transcript.proofs.lines.answer_lines.Given as goal

abbrev pub invariant-loop-place : goal.invariant-loop-place
invariant-loop-place l = string_bytes l.out ≡ lines_from 0 (take l.place-counter l.answers)
