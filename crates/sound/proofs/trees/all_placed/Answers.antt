use Rattle.std.proofs.Common.{◌≡◌, true, arith, rules}
use borrow.Author.Tests.{tests}
use Rattle.tables.specs.State.{has_object}
use Rattle.tables.proofs.Chains.{Decides-all_numbers, YieldsList-below, empty_past}
use Rattle.sound.specs.Sound.{Placed}
use Rattle.sound.proofs.trees.all_placed.Goals as goal

pub returns : goal.returns
returns c =
    let t = c.args.t.now in
    let n = c.objects_end.result in
    Decides-all_numbers _ _ n _ (λ o. has_object t o ≡ true → Placed t o) c.all.ensures.ran (YieldsList-below n cc) (λ x q k. search (rules, tests)) (λ x q k. search (rules, tests))
    (λ k far there. absurd (empty_past t.objects n k (omega arith) far there))
