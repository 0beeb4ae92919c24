use Rattle.std.proofs.Common.{◌<◌, ◌^◌, arith, rules}
use Rattle.tables.proofs.Bitwise.{lowest}
use Rattle.tables.proofs.sets.GroupSet.take_lowest.Goals as goal

pub returns : goal.returns
returns c =
    let n = c.args.self.now.0 in
    let fits : n < 2 ^ 16 = search rules in
    let some : 0 < n = omega (arith, c.if-self-eq0.false) in
    lowest n some fits
