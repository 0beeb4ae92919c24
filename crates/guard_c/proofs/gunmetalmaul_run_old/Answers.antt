use Rattle.guard_c.proofs.gunmetalmaul_run_old.Goals as goal

pub returns-clause-one : goal.returns-clause-one
returns-clause-one c = c.run_with.ensures.one
