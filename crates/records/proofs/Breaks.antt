-- A rights field that ends too early. Assumes nothing.
use Rattle.std.proofs.Common.{◌≡◌, ℕ, cond, IsErrAnd, Ok, Err, Result, ◌∙◌, subst, sym, MatchResult}
use Rattle.byte_cursor.specs.declared.cursors.Cursor.{Cursor}
use Rattle.byte_cursor.specs.declared.cursors.CursorFault.{CursorFault}
use Rattle.byte_cursor.specs.Bytes.{left, Field, Short}
use Rattle.records.specs.declared.forms.ObjectRecord.{ObjectRecord}
use Rattle.records.specs.declared.forms.RecordFault.{RecordFault}
use Rattle.records.specs.declared.forms.RecordFault.TheVariants.{Bytes}
use Rattle.records.specs.Rights.{rights_size}
use Rattle.records.specs.Records.{Failed, objects, has}
use Rattle.records.proofs.Objects.{object_first, object_cut}

-- the fault is passed on
pub object_rights : (bits n : ℕ) (r : Result ObjectRecord RecordFault) (P : ObjectRecord → Type 0) (e : CursorFault) → IsErrAnd r (λ y. y ≡ Bytes e) → {a₀ a₁ a₂ a₃ a₄ a₅ b : Cursor} {pa ki ow la gr : ℕ} → Field 1 (has bits 1) a₀ a₁ pa → Field 1 (has bits 2) a₁ a₂ ki → Field 1 (has bits 4) a₂ a₃ ow → Field 8 (has bits 8) a₃ a₄ la → Field 2 (has bits 32) a₄ a₅ gr → Short (cond (has bits 64) (rights_size (left a₅)) 0) a₅ b e → MatchResult r P (Failed objects bits n a₀)
object_rights bits n (Ok x) P e h f₁ f₂ f₃ f₄ f₅ s = absurd h
object_rights bits n (Err y) P e h {a₀} f₁ f₂ f₃ f₄ f₅ s = subst (Failed objects bits n a₀) (sym h) (s.fault ∙ object_first bits n f₁ f₂ f₃ f₄ f₅, object_cut bits n f₁ f₂ f₃ f₄ f₅ s.few)
