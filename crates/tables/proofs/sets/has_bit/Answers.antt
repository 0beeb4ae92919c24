use Rattle.std.proofs.Common.{◌^◌, ◌≤◌, sym, ◌∙◌, arith, pow_mono}
use Rattle.std.proofs.lemmas.Bool.{both_ways, le-ltb}
use Rattle.tables.proofs.Bitwise.{has_past}
use Rattle.tables.proofs.sets.has_bit.Goals as goal

pub returns-else-k-lt-WIDTH : goal.returns-else-k-lt-WIDTH
returns-else-k-lt-WIDTH c =
    let far : 2 ^ 64 ≤ 2 ^ c.args.k = pow_mono c.if-k-lt-WIDTH.false in
    let no = le-ltb c.args.k 64 c.if-k-lt-WIDTH.false in
    record { is = no ∙ sym (has_past c.args.set c.args.k (omega arith)); within = λ e. absurd (both_ways _ no e) }
