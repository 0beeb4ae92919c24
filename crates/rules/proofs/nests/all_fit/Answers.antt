use Rattle.std.proofs.Common.{◌<◌, length, arith, rules}
use borrow.Author.Tests.{tests}
use Rattle.tables.specs.State.{object}
use Rattle.tables.specs.Ways.{Under}
use Rattle.tables.proofs.Chains.{Decides-all_numbers, YieldsList-below}
use Rattle.tables.proofs.Climb.{below_within}
use Rattle.sound.specs.Nesting.{HeldAbove}
use Rattle.rules.proofs.nests.all_fit.Goals as goal

pub returns : goal.returns
returns g c =
    let m = g.S.Scheme.meaning c.args.v.now.scheme.now in
    let t = c.args.v.now.tables.now in
    let n = c.objects_end.result in
    Decides-all_numbers _ _ n _ (λ x. Under t x c.args.o → HeldAbove m t c.args.q (object t x).label)
    c.all.ensures.ran (YieldsList-below n cc) (λ x q k. search (rules, tests)) (λ x q k. search (rules, tests))
    (λ k far b. let near : k < length t.objects = below_within b in absurd (omega arith))
