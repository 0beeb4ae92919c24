use Rattle.std.proofs.Common.{rules}
use borrow.Author.Tests.{tests}
use Rattle.std.proofs.lemmas.Iterator.{first_from_find}
use Rattle.tables.proofs.Chains.{YieldsList-from_array}
use Rattle.sound.specs.Sound.{Holding}
use Rattle.sound.proofs.Firsts.{every_clause, first_from_order}
use Rattle.sound.proofs.views.View.first_failing.Goals as goal

pub returns : goal.returns
returns g c =
    let m = g.S.Scheme.meaning c.args.self.now.scheme.now in
    let t = c.args.self.now.tables.now in
    first_from_order m t c.find.result
    (first_from_find _ _ _ (λ k. Holding k m t → ⊥) (λ k. Holding k m t) c.find.ensures.ran
    (YieldsList-from_array every_clause c.into_iter.ensures.into_iter_gives.0)
    (λ x q k. search (rules, tests)) (λ x q k. search (rules, tests)))
