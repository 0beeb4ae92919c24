use Rattle.std.proofs.Common.{◌≡◌, rules}
use Rattle.rules.proofs.Altering.{altered}
use Rattle.rules.proofs.named.alter.Goals as goal

pub returns : goal.returns
returns g c =
    let is_kind : c.in_ok-s.o.now.kind ≡ c.args.kind = search rules in
    altered (g.S.Scheme.meaning c.args.v.now.scheme.now) c.args.v.now.tables.now c.args.subject c.args.object c.args.kind c.args.right _ _ c.in_ok-s.ensures is_kind c.may_alter.result c.may_alter.ensures
