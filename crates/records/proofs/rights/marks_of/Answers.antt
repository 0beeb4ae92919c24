use Rattle.std.proofs.Common.{rules, tests, ◌∙◌}
use Rattle.std.specs.List.{enumerate_from}
use Rattle.std.proofs.lemmas.Iterator.{YieldsList-from_slice, YieldsList-from_map}
use Rattle.std.proofs.lemmas.Iterator.Consumers.{YieldsList-at, YieldsList-from_enumerate, fits_by_from_yields_list, sum_by_from_yields_List}
use Rattle.records.proofs.Masks.{mark, marks_sum}
use Rattle.records.proofs.rights.marks_of.Goals as goal

pub sum-requires-clause-fits : goal.sum-requires-clause-fits
sum-requires-clause-fits c =
    let rights = c.args.rights.now in
    fits_by_from_yields_list mark (enumerate_from 0 rights) c.map.result 65536
    (YieldsList-from_map _ mark (YieldsList-at c.map.ensures.source (YieldsList-from_enumerate (YieldsList-at c.enumerate.ensures.source (YieldsList-from_slice rights (cc))) (cc))) c.map.ensures.closure (λ x r q k. search (rules, tests)))
    (marks_sum rights c.told-rights).1

pub returns : goal.returns
returns c =
    let rights = c.args.rights.now in
    sum_by_from_yields_List mark (enumerate_from 0 rights) c.map.result c.sum.result c.sum.ensures.ran
    (YieldsList-from_map _ mark (YieldsList-at c.map.ensures.source (YieldsList-from_enumerate (YieldsList-at c.enumerate.ensures.source (YieldsList-from_slice rights (cc))) (cc))) c.map.ensures.closure (λ x r q k. search (rules, tests)))
    ∙ (marks_sum rights c.told-rights).0
