use Rattle.std.proofs.Common.{refl}
use Rattle.tables.proofs.Bitwise.{has_and}
use Rattle.tables.proofs.sets.GroupSet.meet.Goals as goal

pub returns : goal.returns
returns c = record { value = refl; members = has_and c.args.self.0 c.args.other.0 }
