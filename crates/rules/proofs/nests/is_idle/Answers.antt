use Rattle.std.proofs.Common.{◌≡◌, Some, rules}
use borrow.Author.Tests.{tests}
use Rattle.tables.specs.declared.types.Subject.{Subject}
use Rattle.tables.specs.State.{blank_subject}
use Rattle.tables.proofs.Chains.{Decides-all_slots, YieldsList-from_slots}
use Rattle.rules.proofs.nests.is_idle.Goals as goal

pub returns : goal.returns
returns c =
    let ss = c.args.t.now.subjects in
    Decides-all_slots _ _ ss blank_subject _ (λ (y : Subject). y.program ≡ Some c.args.o → ⊥) c.all.ensures.ran
    (YieldsList-from_slots _ ss (λ x j b. (b.0, b.1)) (cc) (cc) (cc) cc) (λ x q k. search (rules, tests)) (λ x q k. search (rules, tests))
