use Rattle.std.proofs.Common.{◌≡◌, true, arith, rules}
use borrow.Author.Tests.{tests}
use Rattle.tables.specs.Sets.{has}
use Rattle.tables.specs.State.{has_group}
use Rattle.tables.proofs.Chains.{Decides-all_numbers, YieldsList-below}
use Rattle.sound.proofs.Every.{none_past}
use Rattle.sound.proofs.groups.groups_there.Goals as goal

pub returns : goal.returns
returns c =
    Decides-all_numbers _ _ 16 _ (λ g. has c.args.set.0 g ≡ true → has_group c.args.t.now g ≡ true)
    c.all.ensures.ran (YieldsList-below 16 cc) (λ x q k. search (rules, tests)) (λ x q k. search (rules, tests))
    (λ k far in_it. absurd (none_past c.args.set.0 16 k (omega arith) far in_it))
