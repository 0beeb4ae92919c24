use Rattle.std.proofs.Common.{rules}
use borrow.Author.Tests.{tests}
use Rattle.tables.specs.declared.types.User.{User}
use Rattle.tables.specs.State.{blank_user}
use Rattle.tables.proofs.Chains.{Decides-all_slots, YieldsList-from_slots}
use Rattle.sound.specs.Sound.{ProgramsOnly}
use Rattle.sound.proofs.lists.lists_hold.Goals as goal

pub returns : goal.returns
returns c =
    let users = c.args.t.now.users in
    Decides-all_slots _ _ users blank_user _ (λ (x : User). ProgramsOnly c.args.t.now x.allowed.0) c.all.ensures.ran (YieldsList-from_slots _ users (λ x j b. (b.0, b.1)) (cc) (cc) (cc) cc) (λ x q k. search (rules, tests)) (λ x q k. search (rules, tests))
