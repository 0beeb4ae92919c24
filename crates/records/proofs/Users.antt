-- The fields of a user.
use Rattle.std.proofs.Common.{◌≡◌, ℕ, ◌+◌, ◌*◌, ◌≤◌, Bool, true, false, cond, not, eqb, ◌++◌, length, sym, refl, ap, ◌∙◌, subst, append_assoc, arith}
use lib.Bits.{and_high}
use Rattle.byte_cursor.specs.declared.cursors.Cursor.{Cursor}
use Rattle.records.specs.declared.forms.UserRecord.{UserRecord}
use Rattle.records.specs.declared.forms.RecordFault.TheVariants.{Form}
use Rattle.byte_cursor.specs.Bytes.{left, Field}
use Rattle.records.specs.Records.{bit_of, field, has, users, Taken, NoneThere, Failed}
use Rattle.records.proofs.Fields.{bit_tells, bit_at, bit_parts, took_more, field_took, step, field_length}

not_not : (b : Bool) → not (not b) ≡ b
not_not true = refl
not_not false = refl

turned : (b : Bool) → ◌≡◌ {A = ℕ} (cond b 1 0) (cond (not b) 0 1)
turned true = refl
turned false = refl

-- what a user's map tells of each field
pub record Flags (bits : ℕ) (u : UserRecord) : Type 0 where
  pub admin : has bits 1 ≡ u.admin
  pub groups : has bits 2 ≡ not (eqb u.groups 0)
  pub allow : has bits 4 ≡ not (eqb u.allow 0)
  pub floor : has bits 8 ≡ not (eqb u.floor 0)
  pub top : has bits 16 ≡ not (eqb u.top 0)

pub flags : (bits : ℕ) (u : UserRecord) → users.map u ≡ bits → Flags bits u
flags bits u m =
    let t = turned u.admin in
    let p₀ = bit_parts 1 (not u.admin) in
    let p₁ = bit_parts 2 (eqb u.groups 0) in
    let p₂ = bit_parts 4 (eqb u.allow 0) in
    let p₃ = bit_parts 8 (eqb u.floor 0) in
    let p₄ = bit_parts 16 (eqb u.top 0) in
    let z : Bool → ℕ = λ e. cond e 0 1 in
    let b₀ = z (not u.admin) in
    let b₁ = z (eqb u.groups 0) in
    let b₂ = z (eqb u.allow 0) in
    let b₃ = z (eqb u.floor 0) in
    let b₄ = z (eqb u.top 0) in
    record {
      admin = bit_tells bits 1 (not u.admin) (omega arith) (and_high bits 1 0) (bit_at bits 1 0 b₀ (b₁ + 2 * b₂ + 4 * b₃ + 8 * b₄) (omega arith) (omega arith) (omega arith)) ∙ not_not u.admin;
      groups = bit_tells bits 2 _ (omega arith) (and_high bits 1 1) (bit_at bits 2 b₀ b₁ (b₂ + 2 * b₃ + 4 * b₄) (omega arith) (omega arith) (omega arith));
      allow = bit_tells bits 4 _ (omega arith) (and_high bits 1 2) (bit_at bits 4 (b₀ + 2 * b₁) b₂ (b₃ + 2 * b₄) (omega arith) (omega arith) (omega arith));
      floor = bit_tells bits 8 _ (omega arith) (and_high bits 1 3) (bit_at bits 8 (b₀ + 2 * b₁ + 4 * b₂) b₃ b₄ (omega arith) (omega arith) (omega arith));
      top = bit_tells bits 16 _ (omega arith) (and_high bits 1 4) (bit_at bits 16 (b₀ + 2 * b₁ + 4 * b₂ + 8 * b₃) b₄ 0 (omega arith) (omega arith) (omega arith));
    }

module _ (bits n : ℕ) {a₀ a₁ a₂ a₃ a₄ : Cursor} {g al fl tp : ℕ}
    (f₁ : Field 2 (has bits 2) a₀ a₁ g) (f₂ : Field 8 (has bits 4) a₁ a₂ al) (f₃ : Field 8 (has bits 8) a₂ a₃ fl) (f₄ : Field 8 (has bits 16) a₃ a₄ tp) where
  abbrev pub read_as : Bool → UserRecord
  read_as admin = record { number = n; admin = admin; groups = g; allow = al; floor = fl; top = tp }

  abbrev pub read : UserRecord
  read = read_as (has bits 1)

  pub user_taken : users.map read ≡ bits → Taken users bits n a₀ a₄ read
  user_taken m =
      let t = flags bits read m in
      record {
        formed = (f₁.fits, f₂.fits, f₃.fits, f₄.fits);
        maps = m;
        named = refl;
        took = took_more _ _ (field_took f₁ t.groups) (took_more _ _ (field_took f₂ t.allow) (took_more _ _ (field_took f₃ t.floor) (field_took f₄ t.top)));
      }

  pub user_there : users.size bits (left a₀) ≤ length (left a₀)
  user_there = omega (arith, field_length f₁, field_length f₂, field_length f₃, field_length f₄)

  pub user_none : (users.map read ≡ bits → ⊥) → NoneThere users bits n (left a₀)
  user_none other x rest h m nm e =
      let t = flags bits x m in
      let e' : left a₀ ≡ field 2 x.groups ++ (field 8 x.allow ++ (field 8 x.floor ++ (field 8 x.top ++ rest))) = e ∙ simp append_assoc in
      let s₁ = step f₁ x.groups _ t.groups h.0 e' in
      let s₂ = step f₂ x.allow _ t.allow h.1 s₁.1 in
      let s₃ = step f₃ x.floor _ t.floor h.2 s₂.1 in
      let s₄ = step f₄ x.top _ t.top h.3 s₃.1 in
      other ((λ i. cond (t.admin i) 1 0 + bit_of 2 (s₁.0 i) + bit_of 4 (s₂.0 i) + bit_of 8 (s₃.0 i) + bit_of 16 (s₄.0 i)) ∙ m)

  -- by the bit and the map that were found
  module _ {admin : Bool} (is : admin ≡ has bits 1) {m : ℕ} (e : m ≡ users.map (read_as admin)) where
    same_map : m ≡ users.map read
    same_map = e ∙ ap (λ b. users.map (read_as b)) is

    pub user_read : m ≡ bits → Taken users bits n a₀ a₄ (read_as admin)
    user_read b = subst (λ t. Taken users bits n a₀ a₄ (read_as t)) (sym is) (user_taken (sym same_map ∙ b))

    pub user_unlike : (q : ℕ) → q ≡ a₄.first → (m ≡ bits → ⊥) → Failed users bits n a₀ (Form q)
    user_unlike q f ne = (f ∙ f₄.first ∙ f₃.first ∙ f₂.first ∙ f₁.first, user_there, user_none (λ b. ne (same_map ∙ b)))
