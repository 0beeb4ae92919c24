use Rattle.std.proofs.Common.{take}
use Rattle.records.specs.Rights.{bytes_of}
use Rattle.saving.specs.Takes.{Took}
use Rattle.saving.proofs.fields.put_bytes.Given as goal

abbrev pub invariant-loop-b : goal.invariant-loop-b
invariant-loop-b g l = Took g.S.Sink.puts l.initial.out (bytes_of (take l.b-index l.bytes)) l.out
