use Rattle.calculator.proofs.Asking.{names_nothing}
use Rattle.calculator.proofs.questions.reads.next_label.Goals as goal

pub returns-in_err-next-clause-label : goal.returns-in_err-next-clause-label
returns-in_err-next-clause-label c = rw (c.from_residual.ensures, c.in_err-next.ensures.steps.0) (names_nothing c.args.scheme)
