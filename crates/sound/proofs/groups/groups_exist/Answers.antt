use Rattle.std.proofs.Common.{rules}
use borrow.Author.Tests.{tests}
use Rattle.std.proofs.lemmas.Bool.{both_ways}
use Rattle.std.proofs.lemmas.Bool.Decides.{Decides-like}
use Rattle.tables.specs.declared.types.User.{User}
use Rattle.tables.specs.declared.types.Object.{Object}
use Rattle.tables.specs.State.{blank_user, blank_object}
use Rattle.tables.proofs.Chains.{Decides-all_slots, YieldsList-from_slots}
use Rattle.sound.specs.Sound.{GroupsThere}
use Rattle.sound.proofs.groups.groups_exist.Goals as goal

pub returns-else-all : goal.returns-else-all
returns-else-all c =
    let t = c.args.t.now in
    let users = Decides-all_slots _ _ t.users blank_user _ (λ (x : User). GroupsThere t x.groups.0) c.all.ensures.ran
    (YieldsList-from_slots _ t.users (λ x j b. (b.0, b.1)) (cc) (cc) (cc) cc) (λ x q k. search (rules, tests)) (λ x q k. search (rules, tests)) in
    ((λ e. absurd (both_ways _ c.if-all.false e)), λ h. users.1 h.users)

pub returns-then-all : goal.returns-then-all
returns-then-all c =
    let t = c.args.t.now in
    let users = Decides-all_slots _ _ t.users blank_user _ (λ (x : User). GroupsThere t x.groups.0) c.all.ensures.ran
    (YieldsList-from_slots _ t.users (λ x j b. (b.0, b.1)) (cc) (cc) (cc) cc) (λ x q k. search (rules, tests)) (λ x q k. search (rules, tests)) in
    Decides-like _ (λ objects. record { users = users.0 c.if-all.true; objects = objects }) (λ h. h.objects)
    (Decides-all_slots _ _ t.objects blank_object _ (λ (x : Object). GroupsThere t x.groups.0) c.all-then-all.ensures.ran
    (YieldsList-from_slots _ t.objects (λ x j b. (b.0, b.1)) (cc) (cc) (cc) cc) (λ x q k. search (rules, tests)) (λ x q k. search (rules, tests)))
