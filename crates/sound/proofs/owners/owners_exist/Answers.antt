use Rattle.std.proofs.Common.{◌≡◌, true, rules}
use borrow.Author.Tests.{tests}
use Rattle.std.proofs.lemmas.Bool.Decides.{Decides-like}
use Rattle.tables.specs.declared.types.Object.{Object}
use Rattle.tables.specs.State.{has_user, blank_object}
use Rattle.tables.proofs.Chains.{Decides-all_slots, YieldsList-from_slots}
use Rattle.sound.specs.Sound.{HoldersThere}
use Rattle.sound.proofs.owners.owners_exist.Goals as goal

pub returns : goal.returns
returns c =
    let t = c.args.t.now in
    Decides-like _ (λ all. record { owners = λ o h. (all o h).0; holders = λ o h. (all o h).1 }) (λ owned o h. (owned.owners o h, owned.holders o h))
    (Decides-all_slots _ _ t.objects blank_object _ (λ (x : Object). (has_user t x.owner ≡ true) × HoldersThere t x.rights) c.all.ensures.ran (YieldsList-from_slots _ t.objects (λ x j b. (b.0, b.1)) (cc) (cc) (cc) cc) (λ x q k. search (rules, tests)) (λ x q k. search (rules, tests)))
