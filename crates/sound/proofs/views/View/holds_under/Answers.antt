use Rattle.std.proofs.Common.{◌≡◌, true, ◌<◌, length, arith, rules}
use borrow.Author.Tests.{tests}
use Rattle.tables.specs.State.{object}
use Rattle.tables.specs.Ways.{Under}
use Rattle.tables.proofs.Chains.{Decides-all_numbers, YieldsList-below}
use Rattle.tables.proofs.Climb.{below_within}
use Rattle.sound.proofs.views.View.holds_under.Goals as goal

pub returns : goal.returns
returns g c =
    let t = c.args.self.now.tables.now in
    let n = c.objects_end.result in
    Decides-all_numbers _ _ n _ (λ x. Under t x c.args.o → (g.S.Scheme.meaning c.args.self.now.scheme.now).hold c.args.l (object t x).label ≡ true)
    c.all.ensures.ran (YieldsList-below n cc) (λ x q k. search (rules, tests)) (λ x q k. search (rules, tests))
    (λ x far b. let near : x < length t.objects = below_within b in absurd (omega arith))
