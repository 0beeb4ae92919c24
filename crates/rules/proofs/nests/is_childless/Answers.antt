use Rattle.std.proofs.Common.{◌≡◌, rules}
use borrow.Author.Tests.{tests}
use Rattle.tables.specs.declared.types.Object.{Object}
use Rattle.tables.specs.State.{blank_object}
use Rattle.tables.proofs.Chains.{Decides-all_slots, YieldsList-from_slots}
use Rattle.rules.proofs.nests.is_childless.Goals as goal

pub returns : goal.returns
returns c =
    let os = c.args.t.now.objects in
    Decides-all_slots _ _ os blank_object _ (λ (y : Object). y.parent ≡ c.args.o → ⊥) c.all.ensures.ran
    (YieldsList-from_slots _ os (λ x j b. (b.0, b.1)) (cc) (cc) (cc) cc) (λ x q k. search (rules, tests)) (λ x q k. search (rules, tests))
