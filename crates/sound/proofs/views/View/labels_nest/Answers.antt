use Rattle.std.proofs.Common.{◌<◌, length, arith, rules}
use borrow.Author.Tests.{tests}
use Rattle.std.proofs.lemmas.Bool.Decides.{Decides-like}
use Rattle.tables.proofs.Chains.{Decides-all_numbers, YieldsList-below}
use Rattle.tables.proofs.Climb.{below_within}
use Rattle.sound.specs.Nesting.{HeldOver}
use Rattle.sound.proofs.views.View.labels_nest.Goals as goal

pub returns : goal.returns
returns g c =
    let t = c.args.self.now.tables.now in
    let n = c.objects_end.result in
    Decides-like _ (λ h a x b u. h x a b u) (λ h x a b u. h a x b u)
    (Decides-all_numbers _ _ n _ (HeldOver (g.S.Scheme.meaning c.args.self.now.scheme.now) t) c.all.ensures.ran (YieldsList-below n cc) (λ x q k. search (rules, tests)) (λ x q k. search (rules, tests))
    (λ x far a b. let near : x < length t.objects = below_within b in absurd (omega arith)))
