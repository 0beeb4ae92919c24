use Rattle.std.proofs.Common.{◌+◌, ◌*◌, length, take, None, sym, ap, ◌∙◌, mul-one, mul-add, arith, length-append}
use Rattle.std.proofs.lemmas.List.{get_or_read}
use Rattle.records.specs.Records.{encode}
use Rattle.saving.proofs.Taking.{took_both, took_as}
use Rattle.saving.proofs.Walking.{slot_bytes, some_more, none_more}
use Rattle.saving.proofs.saves.put_slots.Goals as goal
use Rattle.saving.proofs.saves.put_slots.Goals.{in-Some, in_default}

pub loop-i-preserved : goal.loop-i-preserved
loop-i-preserved g c =
    let P = g.S.Sink.puts in
    let r = g.T.Entry.written in
    let xs = c.args.xs.now in
    let i = c.loop-i.i in
    let h = c.loop-i-test.true in
    let at = sym (get_or_read xs i c.index-xs-i.result h c.index-xs-i.is None) in
    let more = mul-add g.T.Entry.most i 1 ∙ ap (λ k. g.T.Entry.most * i + k) (mul-one g.T.Entry.most) in
    elim c.match-slot.branch [
      | in-Some w ↦
          (let done = slot_bytes r (take i xs) in
          let e = some_more r xs i w.in-Some.x h (at ∙ w.in-Some.is) in
          let is = ap encode w.record.ensures.is in
          simp w.out-is (
            took_as P _ _ e (took_both P done (encode (r i w.in-Some.x)) c.loop-i.invariant.0 (took_as P _ _ is w.put_record.ensures)),
            omega (arith, ap length (sym e) ∙ length-append done (encode (r i w.in-Some.x)), ap length is, w.record.ensures.short, c.loop-i.invariant.1, more),
          ))
      | in_default w ↦
          (let e = none_more r xs i h (at ∙ w.in_default.is) in
          simp w.out-is (took_as P _ _ e c.loop-i.invariant.0, omega (arith, ap length e, c.loop-i.invariant.1, more)))
    ]
