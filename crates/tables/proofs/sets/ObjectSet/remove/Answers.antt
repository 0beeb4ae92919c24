use Rattle.std.proofs.Common.{◌≡◌, ℕ, ◌*◌, ◌%◌, ◌^◌, sym, ap, ◌∙◌}
use lib.Bits.{bit_xor}
use Rattle.std.proofs.lemmas.Nat.{one_shl}
use Rattle.std.proofs.lemmas.Bool.{cond-true}
use Rattle.tables.specs.Sets.{has, without_element}
use Rattle.tables.proofs.Bitwise.{has_without}
use Rattle.tables.proofs.sets.ObjectSet.remove.Goals as goal

pub returns-then-has_bit : goal.returns-then-has_bit
returns-then-has_bit c =
    let n = c.args.self.now.0 in
    let o = c.args.o in
    let e : bit_xor n ((1 * 2 ^ o) % 2 ^ 64) ≡ without_element n o =
    ap (bit_xor n) (one_shl o 64 (c.has_bit.ensures.within c.if-has_bit.true))
    ∙ sym (cond-true (has n o) (bit_xor n (2 ^ o)) n (sym c.has_bit.ensures.is ∙ c.if-has_bit.true)) in
    record { value = e; members = λ j. ap (λ (m : ℕ). has m j) e ∙ has_without n o j }
