use Rattle.std.proofs.Common.{arith}
use lib.Count.{ones-le}
use Rattle.records.proofs.rights.rights_part.Goals as goal

pub overflow_cast-users : goal.overflow_cast-users
overflow_cast-users c = omega (arith, ones-le 16 c.in_ok-users.users c.in_ok-users.ensures.fits)

pub overflow_add-users : goal.overflow_add-users
overflow_add-users c = omega (arith, ones-le 16 c.in_ok-users.users c.in_ok-users.ensures.fits)
