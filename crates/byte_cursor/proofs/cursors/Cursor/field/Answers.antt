use Rattle.std.proofs.Common.{arith, rules}
use Rattle.byte_cursor.proofs.Powers.{room}
use Rattle.byte_cursor.proofs.cursors.Cursor.field.Goals as goal

pub returns-else-there : goal.returns-else-there
returns-else-there g c =
    record { took = search rules; first = search rules; fits = omega (arith, c.absent.ensures, room g.row.N); absent = λ _. c.absent.ensures }
