use Rattle.std.proofs.Common.{ap, ◌∙◌, arith, rules}
use Rattle.std.proofs.lemmas.Str.Pattern.{split_parts}
use Rattle.std.proofs.lemmas.Option.{MatchOption-at_some, MatchOption-at_none}
use Rattle.notation.specs.Texts.{words}
use Rattle.notation.proofs.Cuts.{pieces_one, pieces_cut}
use Rattle.notation.proofs.texts.WordsIterator.next.Goals as goal

pub returns-in_default-clause-steps : goal.returns-in_default-clause-steps
returns-in_default-clause-steps c =
    let cut = MatchOption-at_none _ _ c.in_default.is (split_parts 32 c.in_ok-text.text.now c.split_once.result c.split_once.ensures.cases (omega arith)) in
    rw (c.in_ok-text.ensures.after, ← c.in_ok-text.ensures.value) (pieces_one 32 c.in_ok-text.text.now cut)

pub returns-in_default-clause-goes : goal.returns-in_default-clause-goes
returns-in_default-clause-goes c = search (rules, returns-in_default-clause-steps c)

pub returns-clause-steps : goal.returns-clause-steps
returns-clause-steps c =
    let cut = MatchOption-at_some _ _ _ c.in-Some.is (split_parts 32 c.in_ok-text.text.now c.split_once.result c.split_once.ensures.cases (omega arith)) in
    rw (← c.in_ok-text.ensures.value) (ap words cut.0 ∙ pieces_cut 32 c.in-Some.word.now c.in-Some.rest.now cut.1)

pub returns-clause-goes : goal.returns-clause-goes
returns-clause-goes c = search (rules, returns-clause-steps c)
