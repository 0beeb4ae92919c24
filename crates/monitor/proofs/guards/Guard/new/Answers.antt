use Rattle.std.proofs.Common.{refl}
use Rattle.monitor.proofs.Answers.{blank_kept, steady_kept}
use Rattle.monitor.proofs.guards.Guard.new.Goals as goal

pub returns : goal.returns
returns g c =
    let m = g.S.Scheme.meaning c.args.scheme in
    let k = blank_kept m c.blank.result c.blank.ensures in
    record { scheme = refl; tables = c.blank.ensures; steady = steady_kept m c.blank.result k; kept = k }
