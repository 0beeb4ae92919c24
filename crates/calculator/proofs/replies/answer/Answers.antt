use Rattle.std.proofs.Common.{sym, ap, ◌∙◌}
use Rattle.notation.specs.Notation.{meaning_of}
use Rattle.calculator.proofs.replies.answer.Goals as goal

pub returns-in-House : goal.returns-in-House
returns-in-House c = c.answer_by.ensures (c.house_label.ensures.meaning ∙ ap meaning_of (sym c.in-House.is))
