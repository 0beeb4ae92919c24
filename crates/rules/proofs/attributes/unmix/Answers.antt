use Rattle.std.proofs.Common.{◌≡◌, Err, rules}
use Rattle.rules.proofs.Mixes.{refused_too}
use Rattle.rules.proofs.attributes.unmix.Goals as goal

pub returns-in_err-mix : goal.returns-in_err-mix
returns-in_err-mix g c =
    let r : c.from_residual.result ≡ Err c.in_err-mix.field-0.0 = search rules in
    rw r (refused_too (g.S.Scheme.meaning c.args.v.now.scheme.now) c.args.v.now.tables.now c.args.subject c.args.object _ c.in_err-mix.ensures)
