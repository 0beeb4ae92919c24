use Rattle.std.proofs.Common.{length, sym, refl, ◌∙◌, subst, arith, rules}
use Rattle.std.proofs.lemmas.Bool.{eqb-true, eqb-false}
use Rattle.std.proofs.lemmas.List.{nil_from_length}
use Rattle.records.specs.Rights.{Marked}
use Rattle.records.proofs.Masks.{tells, writes, some_weaker, map_is}
use Rattle.records.proofs.rights.read_rights.Goals as goal

pub returns-then-is_empty : goal.returns-then-is_empty
returns-then-is_empty c = (record { users = refl; clear = search rules }, nil_from_length c.args.part.now (eqb-true _ 0 (sym c.is_empty.ensures ∙ c.if-is_empty.true)))

pub returns-in_err-map : goal.returns-in_err-map
returns-in_err-map c =
    let ne = eqb-false (length c.args.part.now) 0 (sym c.is_empty.ensures ∙ c.if-is_empty.false) in
    simp c.from_residual.ensures (λ rs f e. let t = tells c.args.part.now rs f e (omega (arith, ne)) in omega (arith, t.long, c.in_err-map.ensures.cases))

pub returns-then-users-eq0 : goal.returns-then-users-eq0
returns-then-users-eq0 c = λ rs f e.
    let cut = c.in_ok-map.ensures.cases in
    let v = map_is c.args.part.now c.in_ok-map.map.now cut.0 c.from_le_bytes-users.ensures in
    let t = tells c.args.part.now rs f e (omega (arith, cut.2)) in
    t.some (t.marks ∙ sym v ∙ c.if-users-eq0.true)

pub returns : goal.returns
returns c =
    let p = c.args.part.now in
    let cut = c.in_ok-map.ensures.cases in
    let v = map_is p c.in_ok-map.map.now cut.0 c.from_le_bytes-users.ensures in
    some_weaker c.spread.result c.spread.ensures
    (λ none rs f e. let t = tells p rs f e (omega (arith, cut.2)) in none rs (record { form = f; marks_are = t.marks ∙ sym v; bytes_are = t.bytes ∙ sym cut.1 }))
    (λ rs k. (k.form, writes p rs _ (omega (arith, cut.2)) (search rules) (search rules) v c.if-users-eq0.false (subst (λ l. Marked c.from_le_bytes-users.result l rs) cut.1 k)))
