use Rattle.std.proofs.Common.{ap, ◌∙◌, ap₂}
use Rattle.labels.specs.Schemes.{turned, pair}
use Rattle.labels.proofs.houses.trust_label.Goals as goal

pub returns : goal.returns
returns c = c.new-5.ensures ∙ ap₂ (pair 16) (c.new-2.ensures ∙ ap turned c.new.ensures) (c.new-4.ensures ∙ ap turned c.new-3.ensures.meaning)
