use Rattle.std.proofs.Common.{get_or, take, arith}
use Rattle.records.specs.Records.{field}
use Rattle.records.specs.Rights.{bytes_of}
use Rattle.saving.proofs.Taking.{took_both, took_as}
use Rattle.saving.proofs.Walking.{bytes_more}
use Rattle.saving.proofs.fields.put_bytes.Goals as goal

pub loop-b-preserved : goal.loop-b-preserved
loop-b-preserved g c =
    let bs = c.args.bytes.now in
    let i = c.loop-b.b-index in
    took_as g.S.Sink.puts _ _ (bytes_more bs i (omega arith) (omega arith))
    (took_both g.S.Sink.puts (bytes_of (take i bs)) (field 1 (get_or bs i 0)) c.loop-b.invariant c.put_number.ensures)
