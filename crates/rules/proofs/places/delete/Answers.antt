use Rattle.std.proofs.Common.{◌≡◌, Err, ⊎_elim, rules}
use Rattle.rules.proofs.places.delete.Goals as goal

pub returns-in_err-may_alter : goal.returns-in_err-may_alter
returns-in_err-may_alter g c =
    let r : c.from_residual-in_err-may_alter.result ≡ Err c.in_err-may_alter.field-0.0 = search rules in
    ⊎_elim (λ a. rw (r, a.0) (search rules)) (λ b. rw (r, b.0) (search rules)) c.in_err-may_alter.ensures
