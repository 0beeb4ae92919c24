use Rattle.std.proofs.Common.{◌≡◌, ℕ, ◌+◌, ◌/◌, [], refl, inl, inr, ⊎_elim, sym, ◌∙◌, subst, arith}
use Rattle.std.proofs.lemmas.Nat.{shr-shr}
use Rattle.std.proofs.lemmas.List.{nil_from_length, set-get_or}
use Rattle.std.proofs.lemmas.Nat.Bits.{shr_and_one}
use Rattle.records.proofs.Spread.{Half, Turn, start, turn_skip, turn_mark, turn_end, zeros_at, none, bad}
use Rattle.records.proofs.rights.spread.Goals as goal
use Rattle.records.proofs.rights.spread.Goals.{then-marks-user-eq1+in_ok-byte+else-byte-eq0+else-byte-gt-ALL_RIGHTS, else-marks-user-eq1}

pub loop-user-init : goal.loop-user-init
loop-user-init c =
    let one : c.args.marks ≡ c.args.marks / 1 = omega arith in
    record { half = subst (λ (m : ℕ). Half c.args.marks c.args.bytes.now 0 m c.args.bytes.now []) one (start c.args.marks c.args.bytes.now (omega arith)); whole = refl; zeros = λ k h. zeros_at 16 k }

pub returns-in_err-byte : goal.returns-in_err-byte
returns-in_err-byte c =
    let odd = sym (shr_and_one c.args.marks c.loop-user.user) ∙ c.if-marks-user-eq1.true in
    simp c.from_residual.ensures (none c.loop-user.invariant.half c.loop-user-test.true odd (nil_from_length c.loop-user.left.now c.in_err-byte.ensures.cases))

pub returns-then-byte-eq0 : goal.returns-then-byte-eq0
returns-then-byte-eq0 c =
    let odd = sym (shr_and_one c.args.marks c.loop-user.user) ∙ c.if-marks-user-eq1.true in
    bad c.loop-user.invariant.half c.loop-user-test.true odd _ c.in_ok-byte.rest.now c.in_ok-byte.ensures.cases.0
    (⊎_elim (λ e. inl e) (λ e. inr (omega (arith, e.1))) c.then-byte-eq0.either)

pub loop-user-preserved : goal.loop-user-preserved
loop-user-preserved c =
    let t = c.loop-user.invariant in
    let bit = shr_and_one c.args.marks c.loop-user.user in
    subst (λ (m : ℕ). Turn c.args.marks c.args.bytes.now (c.loop-user.user + 1) m c.if-marks-user-eq1.left.now c.if-marks-user-eq1.right-items) (shr-shr c.args.marks c.loop-user.user 1)
    (elim c.if-marks-user-eq1.branch [
      | then-marks-user-eq1+in_ok-byte+else-byte-eq0+else-byte-gt-ALL_RIGHTS w ↦
          simp (w.left-is, w.right-items-is)
          (turn_mark t c.loop-user-test.true (sym bit ∙ w.if-marks-user-eq1.true) _ w.in_ok-byte.rest.now w.in_ok-byte.ensures.cases.0 w.if-byte-eq0.false (omega (arith, w.if-byte-gt-ALL_RIGHTS.false)))
      | else-marks-user-eq1 w ↦ simp (w.left-is, w.right-items-is, set-get_or) (turn_skip t c.loop-user-test.true (omega (arith, bit, w.if-marks-user-eq1.false)))
    ])

pub returns : goal.returns
returns c = simp (c.then_some.ensures, c.is_empty.ensures) (turn_end c.loop-user.invariant (omega arith))
