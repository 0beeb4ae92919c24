use Rattle.std.proofs.Common.{subst}
use Rattle.session.specs.Sessions.{OneOutcome}
use Rattle.guard_c.proofs.runs.run_with.Goals as goal

pub returns-clause-one : goal.returns-clause-one
returns-clause-one g c = subst (λ s. OneOutcome (g.S.Scheme.meaning s)) c.new-guard.ensures.scheme c.run-outcome.ensures.outcome
