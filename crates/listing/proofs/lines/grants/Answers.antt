use Rattle.std.proofs.Common.{◌≡◌, ℕ, Bool, cond, List, [], ◌++◌, get_or, string_bytes, codes, decimal, sym, ap, ◌∙◌, eq-eqb, ne_eqb}
use Rattle.tables.specs.State.{no_rights}
use Rattle.listing.specs.Listed.{grant_text, text_of_rights}
use Rattle.listing.proofs.Each.{each_none, stepped, passed}
use Rattle.listing.proofs.lines.grants.Goals as goal
use Rattle.listing.proofs.lines.grants.Goals.{then-set-ne0+in_ok-rights+in_ok-write, else-set-ne0}

pub loop-user-init : goal.loop-user-init
loop-user-init c = c.new-out.ensures.bytes ∙ sym (each_none (grant_text c.args.sets.now))

pub loop-user-preserved : goal.loop-user-preserved
loop-user-preserved c =
    let sets = c.args.sets.now in
    let k = c.loop-user.user-counter in
    let n = (get_or sets k no_rights).0 in
    let whole : List ℕ → List ℕ = λ bs. codes "; user " ++ (decimal k ++ (codes ": " ++ bs)) in
    let said : Bool → List ℕ = λ b. cond b [] (whole (text_of_rights n)) in
    elim c.if-set-ne0.branch [
      | then-set-ne0+in_ok-rights+in_ok-write w ↦
          let text = whole (string_bytes w.in_ok-rights.rights) in
          let r : string_bytes w.in_ok-rights.rights ≡ text_of_rights n = w.in_ok-rights.ensures in
          stepped [] (grant_text sets) k (string_bytes c.loop-user.out) (string_bytes c.if-set-ne0.out) text c.loop-user.invariant
          (ap string_bytes w.out-is ∙ w.in_ok-write.ensures.bytes)
          (ap said (ne_eqb n 0 w.if-set-ne0.true) ∙ ap whole (sym r))
      | else-set-ne0 w ↦ ap string_bytes w.out-is ∙ passed [] (grant_text sets) k (string_bytes c.loop-user.out) c.loop-user.invariant (ap said (eq-eqb n 0 w.if-set-ne0.false))
    ]
