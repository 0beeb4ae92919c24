use Rattle.guard_c.proofs.gunmetalmaul_run_house.Goals as goal

pub returns-clause-one : goal.returns-clause-one
returns-clause-one c = c.run_with.ensures.one
