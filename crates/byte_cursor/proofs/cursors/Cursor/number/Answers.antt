use Rattle.std.proofs.Common.{arith}
use Rattle.byte_cursor.proofs.cursors.Cursor.number.Goals as goal

pub array-requires : goal.array-requires
array-requires g c = omega (arith, g.met.T.Little.few)
