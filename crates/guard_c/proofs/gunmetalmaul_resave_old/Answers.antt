use Rattle.guard_c.proofs.gunmetalmaul_resave_old.Goals as goal

pub returns-clause-one : goal.returns-clause-one
returns-clause-one c = c.resave_with.ensures.one
