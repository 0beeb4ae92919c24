use Rattle.rules.proofs.decide.decide.Goals as goal

pub returns-in-Launch : goal.returns-in-Launch
returns-in-Launch g c = rw c.in-Launch.is c.launch.ensures
