use Rattle.std.proofs.Common.{ℕ, List, ap, ◌∙◌, subst, inl}
use Rattle.calculator.specs.Questions.{Asked}
use Rattle.notation.specs.Texts.{words}
use Rattle.calculator.proofs.questions.reads.read_question.Goals as goal

pub returns : goal.returns
returns c =
    let text = c.in_ok-text.ensures.cases in
    inl (text.1, subst (λ (ws : List (List ℕ)). Asked ws c.read_words.result) (c.new.ensures ∙ ap words text.0) c.read_words.ensures)
