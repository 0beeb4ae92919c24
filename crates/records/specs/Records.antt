-- How a record is written, and when it is in form.
use Rattle.std.specs.Prelude.{◌≡◌, ℕ, ◌+◌, ◌^◌, ◌<◌, ◌≤◌, Bool, cond, not, ◌⊎◌, List, [], ◌∷◌, ◌++◌, length, drop, ◌==◌, ◌≢◌, bit_and, slice_index}
use Rattle.byte_cursor.specs.declared.cursors.Cursor.{Cursor}
use Rattle.records.specs.declared.forms.GroupRecord.{GroupRecord}
use Rattle.records.specs.declared.forms.UserRecord.{UserRecord}
use Rattle.records.specs.declared.forms.ObjectRecord.{ObjectRecord}
use Rattle.records.specs.declared.forms.Record.{Record}
use Rattle.records.specs.declared.forms.Record.TheVariants as record_of
use Rattle.records.specs.declared.forms.RecordFault.{RecordFault}
use Rattle.records.specs.declared.forms.RecordFault.TheVariants.{Bytes, Form, Order}
use Rattle.byte_cursor.specs.Bytes.{le, left, Took}
use Rattle.records.specs.Rights.{rights_size, marks_number, RightsForm, rights_body}

-- the bit of weight w stands for a field that is not zero
abbrev pub bit_of : ℕ → ℕ → ℕ
bit_of w v = cond (v == 0) 0 w

-- a field of n bytes is left out where it is zero
abbrev pub field : ℕ → ℕ → List ℕ
field n v = cond (v == 0) [] (le n v)

-- the bit of weight w stands in a map
abbrev pub has : ℕ → ℕ → Bool
has bits w = not (bit_and bits w == 0)

-- How the records of one kind lie behind their map and number.
pub record Layout (X : Type 0) : Type 1 where
  pub number : X → ℕ
  pub map : X → ℕ
  pub body : X → List ℕ
  -- how many bytes the fields take, by the map and the bytes from the first field on
  pub size : ℕ → List ℕ → ℕ
  pub Formed : X → Type 0

-- x has the map `bits` and the number n, is in form, and its fields were read
pub record Taken {X : Type 0} (L : Layout X) (bits n : ℕ) (a b : Cursor) (x : X) : Type 0 where
  pub formed : L.Formed x
  pub maps : L.map x ≡ bits
  pub named : L.number x ≡ n
  pub took : Took a b (L.body x)

-- no x in form with the map `bits` and the number n is written in front
abbrev pub NoneThere : {X : Type 0} → Layout X → ℕ → ℕ → List ℕ → Type 0
NoneThere {X} L bits n bs = (x : X) (rest : List ℕ) → L.Formed x → L.map x ≡ bits → L.number x ≡ n → bs ≢ L.body x ++ rest

-- the fields end too early, or they are all there and write no record in form
abbrev pub Failed : {X : Type 0} → Layout X → ℕ → ℕ → Cursor → RecordFault → Type 0
Failed L bits n a (Bytes e) = (e.first ≡ a.first) × (length (left a) < L.size bits (left a))
Failed L bits n a (Form q) = (q ≡ a.first) × (L.size bits (left a) ≤ length (left a)) × NoneThere L bits n (left a)
Failed L bits n a (Order q) = ⊥

abbrev pub groups : Layout GroupRecord
groups = record {
  number = λ g. g.number;
  map = λ g. bit_of 1 g.role;
  body = λ g. field 1 g.role;
  size = λ bits _. cond (has bits 1) 1 0;
  Formed = λ g. g.role < 128;
}

abbrev pub users : Layout UserRecord
users = record {
  number = λ u. u.number;
  map = λ u. cond u.admin 1 0 + bit_of 2 u.groups + bit_of 4 u.allow + bit_of 8 u.floor + bit_of 16 u.top;
  body = λ u. field 2 u.groups ++ (field 8 u.allow ++ (field 8 u.floor ++ field 8 u.top));
  size = λ bits _. cond (has bits 2) 2 0 + cond (has bits 4) 8 0 + cond (has bits 8) 8 0 + cond (has bits 16) 8 0;
  Formed = λ u. (u.groups < 2 ^ 16) × (u.allow < 2 ^ 64) × (u.floor < 2 ^ 64) × (u.top < 2 ^ 64);
}

-- how many bytes the fields before the rights take
abbrev pub fixed : ℕ → ℕ
fixed bits = cond (has bits 1) 1 0 + cond (has bits 2) 1 0 + cond (has bits 4) 1 0 + cond (has bits 8) 8 0 + cond (has bits 32) 2 0

pub record ObjectForm (o : ObjectRecord) : Type 0 where
  pub parent : o.parent < 256
  pub kind : o.kind ≤ 2
  pub owner : o.owner < 256
  pub label : o.label < 2 ^ 64
  pub groups : o.groups < 2 ^ 16
  pub rights : RightsForm o.rights

abbrev pub objects : Layout ObjectRecord
objects = record {
  number = λ o. o.number;
  map = λ o. bit_of 1 o.parent + bit_of 2 o.kind + bit_of 4 o.owner + bit_of 8 o.label + cond o.mixed 16 0 + bit_of 32 o.groups + bit_of 64 (marks_number o.rights);
  body = λ o. field 1 o.parent ++ (field 1 o.kind ++ (field 1 o.owner ++ (field 8 o.label ++ (field 2 o.groups ++ rights_body o.rights))));
  size = λ bits bs. fixed bits + cond (has bits 64) (rights_size (drop (fixed bits) bs)) 0;
  Formed = ObjectForm;
}

-- the bytes of a record
abbrev pub encode : Record → List ℕ
encode (record_of.User u) = users.map u ∷ 1 ∷ u.number ∷ users.body u
encode (record_of.Group g) = groups.map g ∷ 2 ∷ g.number ∷ groups.body g
encode (record_of.Object o) = objects.map o ∷ 3 ∷ o.number ∷ objects.body o

-- a kind's table has room for so many, and its map for so many bits; no other kind is known
abbrev pub table_of : ℕ → ℕ
table_of k = slice_index (0 ∷ 16 ∷ 16 ∷ 64 ∷ []) k

abbrev pub maps_of : ℕ → ℕ
maps_of k = slice_index (0 ∷ 32 ∷ 2 ∷ 128 ∷ []) k

abbrev pub InForm : Record → Type 0
InForm (record_of.User u) = users.Formed u × (u.number < 16)
InForm (record_of.Group g) = groups.Formed g × (g.number < 16)
InForm (record_of.Object o) = objects.Formed o × (o.number < 64)

-- the head's kind, number and map are known
abbrev pub Known : List ℕ → Type 0
Known bs = (slice_index bs 2 < table_of (slice_index bs 1)) × (slice_index bs 0 < maps_of (slice_index bs 1))

-- how many bytes follow the head
abbrev pub tail_size : List ℕ → ℕ
tail_size bs = cond (slice_index bs 1 == 1) (users.size (slice_index bs 0) (drop 3 bs)) (cond (slice_index bs 1 == 2) (groups.size (slice_index bs 0) (drop 3 bs)) (objects.size (slice_index bs 0) (drop 3 bs)))

-- the bytes end inside the record in front: in its head, or behind a known head in its fields
abbrev pub Cut : List ℕ → Type 0
Cut bs = (length bs < 3) ⊎ ((3 ≤ length bs) × Known bs × (length (drop 3 bs) < tail_size bs))

-- what is wrong with the record in front, which begins at the place p
abbrev pub Faulty : ℕ → List ℕ → RecordFault → Type 0
Faulty p bs (Bytes e) = (e.first ≡ p) × Cut bs
Faulty p bs (Form q) = (q ≡ p) × (Cut bs → ⊥) × ((x : Record) (rest : List ℕ) → InForm x → bs ≢ encode x ++ rest)
Faulty p bs (Order q) = ⊥

-- What a record in form writes tells it from every other, whatever follows.
abbrev pub Unique : Type 0
Unique = (x y : Record) (r s : List ℕ) → InForm x → InForm y → encode x ++ r ≡ encode y ++ s → (x ≡ y) × (r ≡ s)

-- Bytes that a record in form begins are not cut short inside it.
abbrev pub Whole : Type 0
Whole = (x : Record) (rest : List ℕ) → InForm x → Cut (encode x ++ rest) → ⊥
