use Rattle.std.proofs.Common.{◌≡◌, true, arith, rules}
use borrow.Author.Tests.{tests}
use Rattle.tables.specs.Sets.{has}
use Rattle.tables.specs.declared.types.Kind.TheVariants.{Program}
use Rattle.tables.proofs.Chains.{Decides-all_numbers, YieldsList-below}
use Rattle.sound.specs.Sound.{IsKind}
use Rattle.sound.proofs.Every.{none_past}
use Rattle.sound.proofs.lists.all_programs.Goals as goal

pub returns : goal.returns
returns c =
    Decides-all_numbers _ _ 64 _ (λ o. has c.args.set.0 o ≡ true → IsKind c.args.t.now Program o) c.all.ensures.ran (YieldsList-below 64 cc) (λ x q k. search (rules, tests)) (λ x q k. search (rules, tests))
    (λ k far in_it. absurd (none_past c.args.set.0 64 k (omega arith) far in_it))
