use Rattle.std.proofs.Common.{◌/◌, ◌^◌}
use Rattle.records.proofs.Spread.{Turn}
use Rattle.records.proofs.rights.spread.Given as goal

abbrev pub invariant-loop-user : goal.invariant-loop-user
invariant-loop-user l = Turn l.marks l.bytes l.user (l.marks / 2 ^ l.user) l.left l.right-items
