use Rattle.std.proofs.Common.{◌≡◌, sym, ◌∙◌, subst, ap₂}
use Rattle.labels.specs.Built.{house_of}
use Rattle.labels.specs.House.{house, AnswersByParts}
use Rattle.labels.specs.Schemes.{pair}
use Rattle.labels.proofs.ByParts.{house_by_parts}
use Rattle.labels.proofs.houses.house_label.Goals as goal

pub returns : goal.returns
unfolding house
returns c =
    let e : house_of c.new.result ≡ house = c.new.ensures ∙ ap₂ (pair 32) c.secrecy_label-secrecy.ensures c.trust_label-trust.ensures in
    record { meaning = e; parts = subst AnswersByParts (sym e) house_by_parts }
