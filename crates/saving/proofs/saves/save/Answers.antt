use Rattle.std.proofs.Common.{◌≡◌, ◌+◌, [], ◌++◌, length, drop, ap, ◌∙◌, arith, rules}
use Rattle.saving.specs.Saves.{saved}
use Rattle.saving.proofs.Writing.{written_none}
use Rattle.saving.proofs.saves.save.Goals as goal

pub returns : goal.returns
returns c =
    let w = c.put_tables.ensures.put _ [] (written_none _) in
    let n : 0 + length (saved c.args.t.now) ≡ c.saved_len-n.result = omega (arith, c.saved_len-n.ensures.is) in
    let e : c.put_tables.new.out.bytes.now ≡ saved c.args.t.now ++ drop c.saved_len-n.result c.args.buf.now =
    w.bytes (omega (arith, n, c.if-buf-n.false)) ∙ ap (λ k. saved c.args.t.now ++ drop k c.args.buf.now) n in
    let same = w.held in
    record { all = c.saved_len-n.ensures.is; fits = c.if-buf-n.false; there = search rules }
