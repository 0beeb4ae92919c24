use Rattle.std.proofs.Common.{ℕ, List, ◌++◌, string_bytes, codes, decimal, ap, ◌∙◌}
use Rattle.listing.specs.Listed.{member_text}
use Rattle.listing.proofs.Each.{started, stepped, passed}
use Rattle.listing.proofs.Naming.{member_said, member_passed}
use Rattle.listing.proofs.sets.members.Goals as goal
use Rattle.listing.proofs.sets.members.Goals.{then-contains+in_ok-write, else-contains}

pub loop-k-init : goal.loop-k-init
loop-k-init c =
    started c.args.title.now (member_text c.args.set.0) (string_bytes c.push_str.new.self)
    (c.in_ok-push_str.ensures.bytes ∙ ap (λ (bs : List ℕ). bs ++ c.args.title.now) c.new-out.ensures.bytes)

pub loop-k-preserved : goal.loop-k-preserved
loop-k-preserved c =
    elim c.if-contains.branch [
      | then-contains+in_ok-write w ↦
          stepped c.args.title.now (member_text c.args.set.0) c.loop-k.k-counter (string_bytes c.loop-k.out) (string_bytes c.if-contains.out) (codes " " ++ decimal c.loop-k.k-counter) c.loop-k.invariant
          (ap string_bytes w.out-is ∙ w.in_ok-write.ensures.bytes)
          (member_said c.args.set.0 c.loop-k.k-counter c.contains.ensures w.if-contains.true)
      | else-contains w ↦
          ap string_bytes w.out-is
          ∙ passed c.args.title.now (member_text c.args.set.0) c.loop-k.k-counter (string_bytes c.loop-k.out) c.loop-k.invariant (member_passed c.args.set.0 c.loop-k.k-counter c.contains.ensures w.if-contains.false)
    ]
