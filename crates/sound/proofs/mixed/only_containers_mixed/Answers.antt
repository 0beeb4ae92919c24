use Rattle.std.proofs.Common.{rules}
use borrow.Author.Tests.{tests}
use Rattle.tables.specs.State.{blank_object}
use Rattle.tables.proofs.Chains.{Decides-all_slots, YieldsList-from_slots}
use Rattle.sound.specs.Sound.{MixedRight}
use Rattle.sound.proofs.mixed.only_containers_mixed.Goals as goal

pub returns : goal.returns
returns c =
    let objects = c.args.t.now.objects in
    Decides-all_slots _ _ objects blank_object _ MixedRight c.all.ensures.ran (YieldsList-from_slots _ objects (λ x j b. (b.0, b.1)) (cc) (cc) (cc) cc) (λ x q k. search (rules, tests)) (λ x q k. search (rules, tests))
