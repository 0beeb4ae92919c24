use Rattle.std.proofs.Common.{◌≡◌, ℕ, ◌*◌, ◌%◌, ◌^◌, ltb, sym, ap, ◌∙◌}
use lib.Bits.{bit_or}
use Rattle.std.proofs.lemmas.Nat.{one_shl}
use Rattle.std.proofs.lemmas.Bool.{lt-ltb, cond-true}
use Rattle.tables.specs.Sets.{has, with_element}
use Rattle.tables.proofs.Bitwise.{has_with}
use Rattle.tables.proofs.sets.ObjectSet.insert.Goals as goal

pub returns-then-o-lt-WIDTH : goal.returns-then-o-lt-WIDTH
returns-then-o-lt-WIDTH c =
    let n = c.args.self.now.0 in
    let o = c.args.o in
    let e : bit_or n ((1 * 2 ^ o) % 2 ^ 64) ≡ with_element n o = ap (bit_or n) (one_shl o 64 c.if-o-lt-WIDTH.true) in
    record {
      value = e ∙ sym (cond-true (ltb o 64) (with_element n o) n (lt-ltb o 64 c.if-o-lt-WIDTH.true));
      members = λ _ j. ap (λ (m : ℕ). has m j) e ∙ has_with n o j;
    }
