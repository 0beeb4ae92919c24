use Rattle.std.proofs.Common.{◌≡◌, true, rules}
use borrow.Author.Tests.{tests}
use Rattle.tables.specs.declared.types.User.{User}
use Rattle.tables.specs.State.{blank_user}
use Rattle.tables.proofs.Chains.{Decides-any_slot, YieldsList-from_slots}
use Rattle.sound.proofs.administrators.administrator_exists.Goals as goal

pub returns : goal.returns
returns c =
    let users = c.args.t.now.users in
    Decides-any_slot _ _ users blank_user _ (λ (x : User). x.admin ≡ true) c.any.ensures.ran (YieldsList-from_slots _ users (λ x j b. (b.0, b.1)) (cc) (cc) (cc) cc) (λ x q k. search (rules, tests)) (λ x q k. search (rules, tests))
