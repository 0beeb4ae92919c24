use Rattle.std.proofs.Common.{[], refl, arith}
use Rattle.saving.proofs.saves.saved_len.Goals as goal

pub returns : goal.returns
returns c =
    let counted = c.put_tables.ensures.put (record { count = 0 }) [] refl in
    record { is = omega (arith, counted, c.put_tables.ensures.short); most = omega (arith, counted, c.put_tables.ensures.short) }
