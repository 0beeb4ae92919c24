use Rattle.notation.proofs.Cuts.{parts_uncut, parts_cut, parts_from}
use Rattle.notation.proofs.numbers.read_parts.Goals as goal

pub returns-in_err-secrecy : goal.returns-in_err-secrecy
returns-in_err-secrecy c = rw (c.from_residual.ensures) (parts_uncut c.args.text.now c.split_once.result c.split_once.ensures.cases c.in_err-secrecy.was)

pub returns-in_err-secrecy-2 : goal.returns-in_err-secrecy-2
returns-in_err-secrecy-2 c =
    rw (c.from_residual-in_err-secrecy-2.ensures)
    (λ p small e. c.in_err-secrecy-2.ensures p.secrecy p.secrecy_categories small.secrecy small.secrecy_categories_fit (parts_cut c.args.text.now c.split_once.result c.split_once.ensures.cases _ c.in_ok-secrecy.was p small e).0)

pub returns-in_err-trust : goal.returns-in_err-trust
returns-in_err-trust c =
    rw (c.from_residual-in_err-trust.ensures)
    (λ p small e. c.in_err-trust.ensures p.trust p.trust_categories small.trust small.trust_categories_fit (parts_cut c.args.text.now c.split_once.result c.split_once.ensures.cases _ c.in_ok-secrecy.was p small e).1)

pub returns : goal.returns
returns c =
    let a = c.in_ok-secrecy-2.ensures in
    let b = c.in_ok-trust.ensures in (
      record { secrecy = a.0; secrecy_categories_fit = a.1; trust = b.0; trust_categories_fit = b.1 },
      parts_from c.args.text.now c.split_once.result c.split_once.ensures.cases _ c.in_ok-secrecy.was _ a.2 b.2,
    )
