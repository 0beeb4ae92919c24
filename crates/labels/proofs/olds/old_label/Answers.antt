use Rattle.std.proofs.Common.{◌≡◌, sym, subst, rules}
use Rattle.labels.specs.Built.{old_of}
use Rattle.labels.specs.Old.{old, AnswersByIntegrity}
use Rattle.labels.proofs.ByParts.{old_by_integrity}
use Rattle.labels.proofs.olds.old_label.Goals as goal

pub returns : goal.returns
unfolding old
returns c =
    let e : old_of c.new-2.result ≡ old = search rules in
    record { meaning = e; integrity = subst AnswersByIntegrity (sym e) old_by_integrity }
