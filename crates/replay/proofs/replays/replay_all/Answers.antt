use Rattle.std.proofs.Common.{◌≡◌, ℕ, List, [], ◌++◌, string_bytes, sym, ap, ◌∙◌, subst, append-nil, eqb-true}
use Rattle.std.proofs.lemmas.List.{nil_from_length}
use Rattle.byte_cursor.specs.Bytes.{left}
use Rattle.replay.specs.Cases.{Replayed, none, cut}
use Rattle.replay.proofs.Telling.{further}
use Rattle.replay.proofs.replays.replay_all.Goals as goal

pub returns-in_default : goal.returns-in_default
returns-in_default c = subst (Replayed c.args.cases.now) (sym c.in_ok-push_str.ensures.bytes) (c.loop-c.invariant _ (cut _ c.in_default.ensures))

pub loop-c-preserved : goal.loop-c-preserved
loop-c-preserved c = λ more r.
    let out = string_bytes c.loop-c.out in
    let line = string_bytes c.in_ok-line.line in
    let k = c.in-Ok.case in
    subst (λ (t : List ℕ). Replayed c.args.cases.now (t ++ more)) (sym (c.in_ok-push_str-2.ensures.bytes ∙ ap (λ (bs : List ℕ). out ++ bs) c.as_str.ensures.value))
    (further out more line k.label k.roll.now k.calls.now c.in-Ok.ensures c.in_ok-line.ensures c.loop-c.invariant r)

pub returns : goal.returns
returns c =
    let e : left c.loop-c.c ≡ [] = nil_from_length _ (eqb-true _ 0 (sym c.at_end.ensures ∙ c.loop-c-test.false)) in
    subst (Replayed c.args.cases.now) (append-nil (string_bytes c.loop-c.out)) (c.loop-c.invariant [] (subst (λ (bs : List ℕ). Replayed bs []) (sym e) none))
