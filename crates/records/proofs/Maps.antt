-- The map of an object's fields that are not zero, from their bits. Assumes nothing.
use Rattle.std.proofs.Common.{◌≡◌, ℕ, ◌+◌, ◌*◌, Bool, true, false, cond, not, eqb, ap, ◌∙◌, arith}
use Rattle.std.specs.Int.{from_bool}
use Rattle.records.specs.declared.forms.ObjectRecord.{ObjectRecord}
use Rattle.records.specs.Records.{bit_of, objects}
use Rattle.records.specs.Rights.{marks_number}

told : (z : Bool) (w : ℕ) → w * from_bool (not z) ≡ cond z 0 w
told true w = omega arith
told false w = omega arith

flag_told : (z : Bool) (w : ℕ) {b : ℕ} → b ≡ from_bool z → w * b ≡ cond z w 0
flag_told true w e = ap (λ b. w * b) e ∙ omega arith
flag_told false w e = ap (λ b. w * b) e ∙ omega arith

-- b is 1 where v is not zero
abbrev pub IfNotZero : ℕ → ℕ → Type 0
IfNotZero v b = b ≡ from_bool (not (eqb v 0))

bit_told : (w v : ℕ) {b : ℕ} → IfNotZero v b → w * b ≡ bit_of w v
bit_told w v e = ap (λ b. w * b) e ∙ told (eqb v 0) w

pub object_map : (o : ObjectRecord) {m b₀ b₁ b₂ b₃ b₄ b₅ b₆ : ℕ} → m ≡ marks_number o.rights → IfNotZero o.parent b₀ → IfNotZero o.kind b₁ → IfNotZero o.owner b₂ → IfNotZero o.label b₃ → b₄ ≡ from_bool o.mixed → IfNotZero o.groups b₅ → IfNotZero m b₆ → 1 * b₀ + 2 * b₁ + 4 * b₂ + 8 * b₃ + 16 * b₄ + 32 * b₅ + 64 * b₆ ≡ objects.map o
object_map o {m} me e₀ e₁ e₂ e₃ e₄ e₅ e₆ =
    let e₆' = bit_told 64 m e₆ ∙ ap (bit_of 64) me in
    λ i. bit_told 1 o.parent e₀ i + bit_told 2 o.kind e₁ i + bit_told 4 o.owner e₂ i + bit_told 8 o.label e₃ i + flag_told o.mixed 16 e₄ i + bit_told 32 o.groups e₅ i + e₆' i
