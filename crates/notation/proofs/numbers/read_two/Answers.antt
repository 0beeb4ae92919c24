use Rattle.notation.proofs.Cuts.{two_uncut, two_cut}
use Rattle.notation.proofs.numbers.read_two.Goals as goal

pub returns-in_err-level : goal.returns-in_err-level
returns-in_err-level c = rw (c.from_residual.ensures) (λ m n h k. two_uncut c.args.text.now c.split_once.result c.split_once.ensures.cases c.in_err-level.was m n h)

pub returns-in_err-read_part : goal.returns-in_err-read_part
returns-in_err-read_part c =
    rw (c.from_residual-in_err-read_part.ensures)
    (λ m n h k e. c.in_err-read_part.ensures m h (two_cut c.args.text.now c.split_once.result c.split_once.ensures.cases _ c.in_ok-level.was m n h e).0)

pub returns-in_err-read_part-2 : goal.returns-in_err-read_part-2
returns-in_err-read_part-2 c =
    rw (c.from_residual-in_err-read_part-2.ensures)
    (λ m n h k e. c.in_err-read_part-2.ensures n k (two_cut c.args.text.now c.split_once.result c.split_once.ensures.cases _ c.in_ok-level.was m n h e).1)
