use Rattle.std.proofs.Common.{rules}
use Rattle.rules.proofs.places.move_object.Goals as goal

pub returns-in-Container-3 : goal.returns-in-Container-3
returns-in-Container-3 g c = search rules fits 4000

pub returns-in-Container-4 : goal.returns-in-Container-4
returns-in-Container-4 g c = search rules fits 4000

pub returns-in-Container-5 : goal.returns-in-Container-5
returns-in-Container-5 g c = search rules fits 4000
