use Rattle.std.proofs.Common.{rules}
use Rattle.rules.proofs.places.create.Goals as goal

pub returns-in-Container-5 : goal.returns-in-Container-5
returns-in-Container-5 g c =
    let f = c.in_ok-s.ensures in
    rw (f.maker, f.thing) (search rules)
