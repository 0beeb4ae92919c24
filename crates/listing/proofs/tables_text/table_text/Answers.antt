use Rattle.std.proofs.Common.{◌≡◌, ℕ, ◌<◌, List, None, get_or, length, string_bytes, sym, ap, ◌∙◌, rules}
use Rattle.std.proofs.lemmas.List.{get_or_default}
use Rattle.listing.specs.Listed.{told}
use Rattle.listing.proofs.Each.{started, stepped, passed}
use Rattle.listing.proofs.tables_text.table_text.Goals as goal
use Rattle.listing.proofs.tables_text.table_text.Goals.{in-Some+in_ok-line+in_ok-push_str, in_default}

pub loop-number-init : goal.loop-number-init
loop-number-init g c = started c.args.title.now (λ n. told (g.T.Entry.line_of n) (get_or c.args.slots.now n None)) (string_bytes c.in_ok-out.out) c.in_ok-out.ensures.ok

pub loop-number-preserved : goal.loop-number-preserved
loop-number-preserved g c =
    let f : ℕ → List ℕ = λ n. told (g.T.Entry.line_of n) (get_or c.args.slots.now n None) in
    let k = c.loop-number.number in
    let inside : k < length c.args.slots.now = search rules in
    let read : get_or c.args.slots.now k None ≡ get_or c.args.slots.now k c.index-slots-number.result = get_or_default c.args.slots.now k None c.index-slots-number.result inside in
    elim c.match-slot.branch [
      | in-Some+in_ok-line+in_ok-push_str w ↦
          stepped c.args.title.now f k (string_bytes c.loop-number.out) (string_bytes c.match-slot.out) (string_bytes w.in_ok-line.field-0) c.loop-number.invariant
          (search rules)
          (ap (told (g.T.Entry.line_of k)) (read ∙ w.in-Some.is) ∙ sym w.in_ok-line.ensures)
      | in_default w ↦
          ap string_bytes w.out-is ∙ passed c.args.title.now f k (string_bytes c.loop-number.out) c.loop-number.invariant (ap (told (g.T.Entry.line_of k)) (read ∙ w.in_default.is))
    ]
