use Rattle.std.proofs.Common.{◌≡◌, ℕ, List, ◌∷◌, Err, ap, ◌∙◌, inl, inr, rules}
use Rattle.std.proofs.lemmas.Option.{MatchOption-at_some, MatchOption-at_none}
use Rattle.calculator.specs.declared.questions.Fault.TheVariants as fault
use Rattle.calculator.proofs.Asking.{asked_of}
use Rattle.notation.specs.Texts.{left}
use Rattle.calculator.proofs.questions.reads.read_words.Goals as goal

pub returns-in_err-a : goal.returns-in_err-a
returns-in_err-a c =
    let x = c.in_ok-ok_or.field-0.now in
    let y = c.in_ok-ok_or-2.field-0.now in
    let e : left c.args.words.now ≡ x ∷ y ∷ left c.next-2.new.self
    = MatchOption-at_some _ _ _ c.in_ok-ok_or.ensures.ok_part c.next.ensures.steps ∙ ap (λ (ws : List (List ℕ)). x ∷ ws) (MatchOption-at_some _ _ _ c.in_ok-ok_or-2.ensures.ok_part c.next-2.ensures.steps) in
    let first : c.from_residual-in_err-a.result ≡ Err fault.First = search rules in
    asked_of x y c.from_residual-in_err-a.result e c.in_ok-ask.ask c.in_ok-ask.ensures.value c.in_ok-scheme.scheme c.in_ok-scheme.ensures.value
    (inr (MatchOption-at_none _ _ c.in_err-a.ensures.ok_part c.next_label.ensures.label, first))

pub returns : goal.returns
returns c =
    let x = c.in_ok-ok_or.field-0.now in
    let y = c.in_ok-ok_or-2.field-0.now in
    let e : left c.args.words.now ≡ x ∷ y ∷ left c.next-2.new.self
    = MatchOption-at_some _ _ _ c.in_ok-ok_or.ensures.ok_part c.next.ensures.steps ∙ ap (λ (ws : List (List ℕ)). x ∷ ws) (MatchOption-at_some _ _ _ c.in_ok-ok_or-2.ensures.ok_part c.next-2.ensures.steps) in
    asked_of x y c.read_rest.result e c.in_ok-ask.ask c.in_ok-ask.ensures.value c.in_ok-scheme.scheme c.in_ok-scheme.ensures.value
    (inl (c.in_ok-a.a, MatchOption-at_some _ _ _ c.in_ok-a.ensures.ok_part c.next_label.ensures.label, c.read_rest.ensures (x ∷ y ∷ left c.next-2.new.self) c.next_label.ensures.rest))
