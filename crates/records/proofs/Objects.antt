-- The fields of an object.
use Rattle.std.proofs.Common.{◌≡◌, ℕ, ◌+◌, ◌*◌, ◌<◌, ◌≤◌, Bool, true, false, cond, not, eqb, ◌⊎◌, List, ◌++◌, length, take, drop, sym, refl, ap, ◌∙◌, subst, ⊎_elim, append_assoc, arith, length-append}
use lib.Bits.{and_high}
use Rattle.std.proofs.lemmas.List.{drop-drop, take_at, drop_at}
use Rattle.byte_cursor.specs.declared.cursors.Cursor.{Cursor}
use Rattle.records.specs.declared.forms.ObjectRecord.{ObjectRecord}
use Rattle.records.specs.declared.forms.RecordFault.TheVariants.{Form}
use Rattle.byte_cursor.specs.declared.cursors.CursorFault.{CursorFault}
use Rattle.byte_cursor.specs.Bytes.{left, Took, Field, Short, field_if}
use Rattle.records.specs.Records.{bit_of, field, has, fixed, objects, ObjectForm, Taken, NoneThere, Failed}
use Rattle.records.specs.Rights.{rights_size, marks_number, RightsForm, rights_body}
use Rattle.records.proofs.Fields.{bit_tells, bit_at, bit_parts, took_more, field_took, step, field_length, length_field_if}
use Rattle.records.proofs.Masks.{marks_told, body_size}

not_not : (b : Bool) → not (not b) ≡ b
not_not true = refl
not_not false = refl

turned : (b : Bool) → ◌≡◌ {A = ℕ} (cond b 16 0) (cond (not b) 0 16)
turned true = refl
turned false = refl

pub record Flags (bits : ℕ) (o : ObjectRecord) : Type 0 where
  pub parent : has bits 1 ≡ not (eqb o.parent 0)
  pub kind : has bits 2 ≡ not (eqb o.kind 0)
  pub owner : has bits 4 ≡ not (eqb o.owner 0)
  pub label : has bits 8 ≡ not (eqb o.label 0)
  pub mixed : has bits 16 ≡ o.mixed
  pub groups : has bits 32 ≡ not (eqb o.groups 0)
  pub rights : has bits 64 ≡ not (eqb (marks_number o.rights) 0)

pub flags : (bits : ℕ) (o : ObjectRecord) → objects.map o ≡ bits → Flags bits o
flags bits o m =
    let t = turned o.mixed in
    let z : Bool → ℕ = λ e. cond e 0 1 in
    let p₀ = bit_parts 1 (eqb o.parent 0) in
    let p₁ = bit_parts 2 (eqb o.kind 0) in
    let p₂ = bit_parts 4 (eqb o.owner 0) in
    let p₃ = bit_parts 8 (eqb o.label 0) in
    let p₄ = bit_parts 16 (not o.mixed) in
    let p₅ = bit_parts 32 (eqb o.groups 0) in
    let p₆ = bit_parts 64 (eqb (marks_number o.rights) 0) in
    let b₀ = z (eqb o.parent 0) in
    let b₁ = z (eqb o.kind 0) in
    let b₂ = z (eqb o.owner 0) in
    let b₃ = z (eqb o.label 0) in
    let b₄ = z (not o.mixed) in
    let b₅ = z (eqb o.groups 0) in
    let b₆ = z (eqb (marks_number o.rights) 0) in
    record {
      parent = bit_tells bits 1 _ (omega arith) (and_high bits 1 0) (bit_at bits 1 0 b₀ (b₁ + 2 * b₂ + 4 * b₃ + 8 * b₄ + 16 * b₅ + 32 * b₆) (omega arith) (omega arith) (omega arith));
      kind = bit_tells bits 2 _ (omega arith) (and_high bits 1 1) (bit_at bits 2 b₀ b₁ (b₂ + 2 * b₃ + 4 * b₄ + 8 * b₅ + 16 * b₆) (omega arith) (omega arith) (omega arith));
      owner = bit_tells bits 4 _ (omega arith) (and_high bits 1 2) (bit_at bits 4 (b₀ + 2 * b₁) b₂ (b₃ + 2 * b₄ + 4 * b₅ + 8 * b₆) (omega arith) (omega arith) (omega arith));
      label = bit_tells bits 8 _ (omega arith) (and_high bits 1 3) (bit_at bits 8 (b₀ + 2 * b₁ + 4 * b₂) b₃ (b₄ + 2 * b₅ + 4 * b₆) (omega arith) (omega arith) (omega arith));
      mixed = bit_tells bits 16 (not o.mixed) (omega arith) (and_high bits 1 4) (bit_at bits 16 (b₀ + 2 * b₁ + 4 * b₂ + 8 * b₃) b₄ (b₅ + 2 * b₆) (omega arith) (omega arith) (omega arith)) ∙ not_not o.mixed;
      groups = bit_tells bits 32 _ (omega arith) (and_high bits 1 5) (bit_at bits 32 (b₀ + 2 * b₁ + 4 * b₂ + 8 * b₃ + 16 * b₄) b₅ b₆ (omega arith) (omega arith) (omega arith));
      rights = bit_tells bits 64 _ (omega arith) (and_high bits 1 6) (bit_at bits 64 (b₀ + 2 * b₁ + 4 * b₂ + 8 * b₃ + 16 * b₄ + 32 * b₅) b₆ 0 (omega arith) (omega arith) (omega arith));
    }

-- k bytes further on
record Skip (k : ℕ) (a b : Cursor) : Type 0 where
  dropped : left b ≡ drop k (left a)
  long : length (left a) ≡ k + length (left b)

skip_field : {n : ℕ} {t : Bool} {a b : Cursor} {v : ℕ} → Field n t a b v → Skip (cond t n 0) a b
skip_field {n} {t} {a} {b} {v} f = record {
  dropped = sym (ap (drop (cond t n 0)) f.took.split ∙ drop_at (field_if n t v) (left b) (cond t n 0) (length_field_if n t v));
  long = field_length f;
}

skip_more : {j k : ℕ} {a b c : Cursor} → Skip j a b → Skip k b c → Skip (j + k) a c
skip_more {j} {k} {a} {b} {c} p q = record {
  dropped = q.dropped ∙ ap (drop k) p.dropped ∙ drop-drop k j (left a);
  long = omega (arith, p.long, q.long);
}

module _ (bits n : ℕ) {a₀ a₁ a₂ a₃ a₄ a₅ : Cursor} {pa ki ow la gr : ℕ}
    (f₁ : Field 1 (has bits 1) a₀ a₁ pa) (f₂ : Field 1 (has bits 2) a₁ a₂ ki) (f₃ : Field 1 (has bits 4) a₂ a₃ ow)
    (f₄ : Field 8 (has bits 8) a₃ a₄ la) (f₅ : Field 2 (has bits 32) a₄ a₅ gr) where
  skipped : Skip (fixed bits) a₀ a₅
  skipped = skip_more (skip_more (skip_more (skip_more (skip_field f₁) (skip_field f₂)) (skip_field f₃)) (skip_field f₄)) (skip_field f₅)

  size_is : objects.size bits (left a₀) ≡ fixed bits + cond (has bits 64) (rights_size (left a₅)) 0
  size_is = ap (λ l. fixed bits + cond (has bits 64) (rights_size l) 0) (sym skipped.dropped)

  pub object_first : a₅.first ≡ a₀.first
  object_first = f₅.first ∙ f₄.first ∙ f₃.first ∙ f₂.first ∙ f₁.first

  pub object_cut : length (left a₅) < cond (has bits 64) (rights_size (left a₅)) 0 → length (left a₀) < objects.size bits (left a₀)
  object_cut h = omega (arith, size_is, skipped.long)

  module _ {a₆ : Cursor} {p : List ℕ} (t : Took a₅ a₆ p) (l : length p ≡ cond (has bits 64) (rights_size (left a₅)) 0) where
    pub object_there : objects.size bits (left a₀) ≤ length (left a₀)
    object_there = omega (arith, size_is, skipped.long, ap length t.split ∙ length-append p (left a₆))

    -- what is written there was read
    record Same (x : ObjectRecord) : Type 0 where
      same_parent : pa ≡ x.parent
      same_kind : ki ≡ x.kind
      same_owner : ow ≡ x.owner
      same_label : la ≡ x.label
      same_groups : gr ≡ x.groups
      same_mixed : has bits 16 ≡ x.mixed
      same_part : p ≡ rights_body x.rights

    same : (x : ObjectRecord) (rest : List ℕ) → ObjectForm x → objects.map x ≡ bits → left a₀ ≡ objects.body x ++ rest → Same x
    same x rest h m e =
        let fl = flags bits x m in
        let e' : left a₀ ≡ field 1 x.parent ++ (field 1 x.kind ++ (field 1 x.owner ++ (field 8 x.label ++ (field 2 x.groups ++ (rights_body x.rights ++ rest))))) = e ∙ simp append_assoc in
        let s₁ = step f₁ x.parent _ fl.parent h.parent e' in
        let k : x.kind < 256 = omega (arith, h.kind) in
        let s₂ = step f₂ x.kind _ fl.kind k s₁.1 in
        let s₃ = step f₃ x.owner _ fl.owner h.owner s₂.1 in
        let s₄ = step f₄ x.label _ fl.label h.label s₃.1 in
        let s₅ = step f₅ x.groups _ fl.groups h.groups s₄.1 in
        let r : left a₅ ≡ rights_body x.rights ++ rest = s₅.1 in
        let same_size : length (rights_body x.rights) ≡ length p = body_size x.rights rest h.rights ∙ (λ i. cond (sym fl.rights i) (rights_size (sym r i)) 0) ∙ sym l in
        record {
          same_parent = s₁.0;
          same_kind = s₂.0;
          same_owner = s₃.0;
          same_label = s₄.0;
          same_groups = s₅.0;
          same_mixed = fl.mixed;
          same_part = sym (take_at p (left a₆) (length p) refl) ∙ ap (take (length p)) (sym t.split ∙ r) ∙ take_at (rights_body x.rights) rest (length p) same_size;
        }

    -- the part writes no rights in form
    pub object_none : ((rs : List ℕ) → RightsForm rs → p ≡ rights_body rs → ⊥) → NoneThere objects bits n (left a₀)
    object_none bad x rest h m nm e = bad x.rights h.rights (same x rest h m e).same_part

    pub object_unwritten : (q : ℕ) → q ≡ a₆.first → a₆.first ≡ a₅.first → ((rs : List ℕ) → RightsForm rs → p ≡ rights_body rs → ⊥) → Failed objects bits n a₀ (Form q)
    object_unwritten q e f bad = (e ∙ f ∙ object_first, object_there, object_none bad)

    module _ (rs : List ℕ) (form : RightsForm rs) (is : p ≡ rights_body rs) where
      abbrev pub read_as : Bool → ObjectRecord
      read_as mixed = record { number = n; parent = pa; kind = ki; owner = ow; label = la; mixed = mixed; groups = gr; rights = rs }

      abbrev read : ObjectRecord
      read = read_as (has bits 16)

      pub object_taken : objects.map read ≡ bits → ki ≤ 2 → Taken objects bits n a₀ a₆ read
      object_taken m k =
          let fl = flags bits read m in
          record {
            formed = record { parent = f₁.fits; kind = k; owner = f₃.fits; label = f₄.fits; groups = f₅.fits; rights = form };
            maps = m;
            named = refl;
            took = took_more _ _ (field_took f₁ fl.parent) (took_more _ _ (field_took f₂ fl.kind) (took_more _ _ (field_took f₃ fl.owner) (took_more _ _ (field_took f₄ fl.label) (took_more _ _ (field_took f₅ fl.groups) (subst (Took a₅ a₆) is t)))));
          }

      pub object_other : (objects.map read ≡ bits → 2 < ki) → NoneThere objects bits n (left a₀)
      object_other bad x rest h m nm e =
          let s = same x rest h m e in
          let marks : marks_number rs ≡ marks_number x.rights = marks_told p rs form is ∙ sym (marks_told p x.rights h.rights s.same_part) in
          let m' : objects.map read ≡ bits = (λ i. bit_of 1 (s.same_parent i) + bit_of 2 (s.same_kind i) + bit_of 4 (s.same_owner i) + bit_of 8 (s.same_label i) + cond (s.same_mixed i) 16 0 + bit_of 32 (s.same_groups i) + bit_of 64 (marks i)) ∙ m in
          omega (arith, bad m', h.kind, s.same_kind)

      -- by the bit and the map that were found
      module _ {mixed : Bool} (is_mixed : mixed ≡ has bits 16) {m : ℕ} (found : m ≡ objects.map (read_as mixed)) where
        same_map : m ≡ objects.map read
        same_map = found ∙ ap (λ b. objects.map (read_as b)) is_mixed

        pub object_read : m ≡ bits → ki ≤ 2 → Taken objects bits n a₀ a₆ (read_as mixed)
        object_read b k = subst (λ t. Taken objects bits n a₀ a₆ (read_as t)) (sym is_mixed) (object_taken (sym same_map ∙ b) k)

        pub object_unlike : (q : ℕ) → q ≡ a₆.first → a₆.first ≡ a₅.first → (m ≡ bits → ⊥) ⊎ ((m ≡ bits) × (2 < ki)) → Failed objects bits n a₀ (Form q)
        object_unlike q e f either = (e ∙ f ∙ object_first, object_there, object_other (λ b. ⊎_elim (λ ne. absurd (ne (same_map ∙ b))) (λ two. two.1) either))

-- a part that a bit of the map stands for, by the test of the bit
pub part_long : {there bit : Bool} (k : ℕ) {n : ℕ} → there ≡ bit → n ≡ cond there k 0 → n ≡ cond bit k 0
part_long k is e = e ∙ ap (λ t. cond t k 0) is

pub part_short : {there bit : Bool} (k : ℕ) {a b : Cursor} {e : CursorFault} → there ≡ bit → Short (cond there k 0) a b e → Short (cond bit k 0) a b e
part_short k {a} {b} {e} is s = subst (λ t. Short (cond t k 0) a b e) is s
