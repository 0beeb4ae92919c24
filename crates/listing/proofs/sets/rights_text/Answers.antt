use Rattle.std.proofs.Common.{◌≡◌, [], length, string_bytes, ap, ◌∙◌, arith, rules}
use Rattle.listing.specs.Listed.{or_none, text_of_rights}
use Rattle.listing.proofs.Naming.{named, rights, named_next, named_all, none_said, some_said}
use Rattle.listing.proofs.sets.rights_text.Goals as goal
use Rattle.listing.proofs.sets.rights_text.Goals.{then-is_empty+in_ok-push_str, else-is_empty}

pub loop-right-preserved : goal.loop-right-preserved
loop-right-preserved c = named_next c.args.set.0 c.loop-right.right-index rights _ (string_bytes c.loop-right.out) (string_bytes c.name.new.out) (named c.args.set.0 rights []) (omega arith) c.in_ok-name.ensures c.loop-right.invariant

pub returns : goal.returns
unfolding text_of_rights
returns c =
    let k : c.loop-right.right-index ≡ 7 = omega arith in
    let all = string_bytes c.loop-right.out in
    let whole : all ≡ named c.args.set.0 rights [] = named_all c.args.set.0 c.loop-right.right-index all k c.loop-right.invariant in
    let said : string_bytes c.if-is_empty.out ≡ or_none all =
    elim c.if-is_empty.branch [
      | then-is_empty+in_ok-push_str w ↦
          let none : length all ≡ 0 = search rules in
          ap string_bytes w.out-is ∙ w.in_ok-push_str.ensures.bytes ∙ none_said all none
      | else-is_empty w ↦
          let some : length all ≡ 0 → ⊥ = λ e. search rules in
          ap string_bytes w.out-is ∙ some_said all some
    ] in
    said ∙ ap or_none whole
