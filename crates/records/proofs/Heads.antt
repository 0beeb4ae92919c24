-- A record's head, and what follows it.
use Rattle.std.proofs.Common.{◌≡◌, ℕ, zero, suc, ◌+◌, ◌<◌, ◌≤◌, Bool, true, false, cond, eqb, List, [], ◌∷◌, ◌++◌, length, get_or, drop, sym, refl, ap, ◌∙◌, subst, inr, ⊎_elim, arith}
use Rattle.byte_cursor.specs.declared.cursors.Cursor.{Cursor}
use Rattle.records.specs.declared.forms.UserRecord.{UserRecord}
use Rattle.records.specs.declared.forms.GroupRecord.{GroupRecord}
use Rattle.records.specs.declared.forms.ObjectRecord.{ObjectRecord}
use Rattle.records.specs.declared.forms.Record.{Record}
use Rattle.records.specs.declared.forms.Record.TheVariants as record_of
use Rattle.records.specs.declared.forms.RecordFault.{RecordFault}
use Rattle.records.specs.declared.forms.RecordFault.TheVariants.{Bytes, Form, Order}
use Rattle.byte_cursor.specs.Bytes.{left, Took}
use Rattle.records.specs.Rights.{marks_number}
use Rattle.records.specs.Records.{Layout, users, groups, objects, Failed, encode, InForm, table_of, maps_of, tail_size, Known, Faulty}
use Rattle.records.proofs.Fields.{took_more}

three : (h : List ℕ) → length h ≡ 3 → h ≡ get_or h 0 0 ∷ get_or h 1 0 ∷ get_or h 2 0 ∷ []
three [] e = absurd (omega arith)
three (a ∷ []) e = absurd (omega arith)
three (a ∷ b ∷ []) e = absurd (omega arith)
three (a ∷ b ∷ c ∷ []) e = refl
three (a ∷ b ∷ c ∷ d ∷ h) e = absurd (omega arith)

-- a head was read from a to b
pub record Head (a b : Cursor) (bits k n : ℕ) : Type 0 where
  pub took : Took a b (bits ∷ k ∷ n ∷ [])
  pub first : b.first ≡ a.place

pub head_read : {a a₁ b : Cursor} (h : List ℕ) → Took a a₁ [] → a₁.first ≡ a.place → Took a₁ b h → length h ≡ 3 → b.first ≡ a₁.first → Head a b (get_or h 0 0) (get_or h 1 0) (get_or h 2 0)
head_read {a} {a₁} {b} h t f u l g = record { took = subst (Took a b) (three h l) (took_more [] h t u); first = g ∙ f }

pub as_kind : {a b : Cursor} {bits k n l : ℕ} → k ≡ l → Head a b bits k n → Head a b bits l n
as_kind {a} {b} {bits} {k} {n} e h = subst (λ k. Head a b bits k n) e h

cond_le : (z : Bool) (w : ℕ) → (cond z 0 w ≤ w) × (cond z w 0 ≤ w)
cond_le true w = (omega arith, omega arith)
cond_le false w = (omega arith, omega arith)

user_map_lt : (u : UserRecord) → users.map u < 32
user_map_lt u = omega (arith, (cond_le u.admin 1).1, (cond_le (eqb u.groups 0) 2).0, (cond_le (eqb u.allow 0) 4).0, (cond_le (eqb u.floor 0) 8).0, (cond_le (eqb u.top 0) 16).0)

group_map_lt : (g : GroupRecord) → groups.map g < 2
group_map_lt g = omega (arith, (cond_le (eqb g.role 0) 1).0)

object_map_lt : (o : ObjectRecord) → objects.map o < 128
object_map_lt o = omega (arith, (cond_le (eqb o.parent 0) 1).0, (cond_le (eqb o.kind 0) 2).0, (cond_le (eqb o.owner 0) 4).0, (cond_le (eqb o.label 0) 8).0, (cond_le o.mixed 16).1, (cond_le (eqb o.groups 0) 32).0, (cond_le (eqb (marks_number o.rights) 0) 64).0)

-- the head of a record in form is known
known : (x : Record) (rest : List ℕ) → InForm x → Known (encode x ++ rest)
known (record_of.User u) rest h = (h.1, user_map_lt u)
known (record_of.Group g) rest h = (h.1, group_map_lt g)
known (record_of.Object o) rest h = (h.1, object_map_lt o)

module _ {a b : Cursor} {bits k n : ℕ} (h : Head a b bits k n) where
  whole : left a ≡ bits ∷ k ∷ n ∷ left b
  whole = h.took.split

  long : length (left a) ≡ 3 + length (left b)
  long = ap length whole ∙ omega arith

  -- an unknown head
  pub unknown : (n < table_of k → bits < maps_of k → ⊥) → (q : ℕ) → q ≡ b.first → Faulty a.place (left a) (Form q)
  unknown bad q e = (
    e ∙ h.first,
    ⊎_elim (λ lt. omega (arith, long)) (λ c. let kn = subst Known whole c.1 in bad kn.0 kn.1),
    λ x rest i same. let kn = subst Known (sym same ∙ whole) (known x rest i) in bad kn.0 kn.1,
  )

  -- fields that fail behind a known head
  module _ {X : Type 0} (L : Layout X) (number_ok : n < table_of k) (map-ok : bits < maps_of k) (tail : tail_size (bits ∷ k ∷ n ∷ left b) ≡ L.size bits (left b))
      (only : (x : Record) (rest : List ℕ) → InForm x → bits ∷ k ∷ n ∷ left b ≡ encode x ++ rest → (y : X) × L.Formed y × (L.map y ≡ bits) × (L.number y ≡ n) × (left b ≡ L.body y ++ rest)) where
    sizes : tail_size (left a) ≡ L.size bits (left b)
    sizes = ap tail_size whole ∙ tail

    rest_long : length (drop 3 (left a)) ≡ length (left b)
    rest_long = ap (λ l. length (drop 3 l)) whole

    pub failed : (f : RecordFault) → Failed L bits n b f → Faulty a.place (left a) f
    failed (Bytes e) w = (w.0 ∙ h.first, inr (omega (arith, long), subst Known (sym whole) (number_ok, map-ok), omega (arith, w.1, sizes, rest_long)))
    failed (Form q) w = (
      w.0 ∙ h.first,
      ⊎_elim (λ lt. omega (arith, long)) (λ c. omega (arith, c.2, w.1, sizes, rest_long)),
      λ x rest i same. let y = only x rest i (sym whole ∙ same) in w.2 y.0 rest y.1 y.2 y.3 y.4,
    )
    failed (Order q) w = absurd w

pub user_only : (bits n : ℕ) (bs : List ℕ) (x : Record) (rest : List ℕ) → InForm x → bits ∷ 1 ∷ n ∷ bs ≡ encode x ++ rest → (y : UserRecord) × users.Formed y × (users.map y ≡ bits) × (users.number y ≡ n) × (bs ≡ users.body y ++ rest)
user_only bits n bs (record_of.User u) rest h e = (u, h.0, (cc), (cc), (cc))
user_only bits n bs (record_of.Group g) rest h e = let z : ◌≡◌ {A = ℕ} 1 2 = cc in absurd (omega arith)
user_only bits n bs (record_of.Object o) rest h e = let z : ◌≡◌ {A = ℕ} 1 3 = cc in absurd (omega arith)

pub group_only : (bits n : ℕ) (bs : List ℕ) (x : Record) (rest : List ℕ) → InForm x → bits ∷ 2 ∷ n ∷ bs ≡ encode x ++ rest → (y : GroupRecord) × groups.Formed y × (groups.map y ≡ bits) × (groups.number y ≡ n) × (bs ≡ groups.body y ++ rest)
group_only bits n bs (record_of.User u) rest h e = let z : ◌≡◌ {A = ℕ} 2 1 = cc in absurd (omega arith)
group_only bits n bs (record_of.Group g) rest h e = (g, h.0, (cc), (cc), (cc))
group_only bits n bs (record_of.Object o) rest h e = let z : ◌≡◌ {A = ℕ} 2 3 = cc in absurd (omega arith)

pub object_only : (bits n : ℕ) (bs : List ℕ) (x : Record) (rest : List ℕ) → InForm x → bits ∷ 3 ∷ n ∷ bs ≡ encode x ++ rest → (y : ObjectRecord) × objects.Formed y × (objects.map y ≡ bits) × (objects.number y ≡ n) × (bs ≡ objects.body y ++ rest)
object_only bits n bs (record_of.User u) rest h e = let z : ◌≡◌ {A = ℕ} 3 1 = cc in absurd (omega arith)
object_only bits n bs (record_of.Group g) rest h e = let z : ◌≡◌ {A = ℕ} 3 2 = cc in absurd (omega arith)
object_only bits n bs (record_of.Object o) rest h e = (o, h.0, (cc), (cc), (cc))

-- no other kind has a table
pub no_table : (k : ℕ) → (k ≡ 1 → ⊥) → (k ≡ 2 → ⊥) → (k ≡ 3 → ⊥) → table_of k ≡ 0
no_table zero a b c = refl
no_table (suc zero) a b c = absurd (a refl)
no_table (suc (suc zero)) a b c = absurd (b refl)
no_table (suc (suc (suc zero))) a b c = absurd (c refl)
no_table (suc (suc (suc (suc k)))) a b c = refl

pub table_at : (k n : ℕ) {m : ℕ} → k ≡ n → m < table_of k → m < table_of n
table_at k n {m} e h = subst (λ k. m < table_of k) e h

pub maps_at : (k n : ℕ) {m : ℕ} → k ≡ n → m < maps_of k → m < maps_of n
maps_at k n {m} e h = subst (λ k. m < maps_of k) e h
