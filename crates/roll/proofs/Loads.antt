-- The loop that loads a roll.
use Rattle.std.proofs.Common.{◌≤◌, ◌≡◌, ℕ, ◌+◌, ◌<◌, List, [], ◌∷◌, ◌++◌, length, drop, Ok, Err, sym, refl, ap, ◌∙◌, subst, append_assoc, append-nil, arith, length-append}
use Rattle.std.specs.List.{flat_map}
use Rattle.std.proofs.slice.Lists.{all_by_recursion_push}
use Rattle.std.proofs.lemmas.List.{flat_map_more, nil_from_length}
use Rattle.byte_cursor.specs.declared.cursors.Cursor.{Cursor}
use Rattle.records.specs.declared.forms.Record.{Record}
use Rattle.records.specs.declared.forms.Record.TheVariants as record_of
use Rattle.records.specs.declared.forms.RecordFault.{RecordFault}
use Rattle.records.specs.declared.forms.RecordFault.TheVariants as record_fault
use Rattle.tables.specs.declared.types.Tables.{Tables}
use Rattle.byte_cursor.specs.Bytes.{left, Took}
use Rattle.records.specs.Records.{encode, InForm, Faulty}
use Rattle.tables.specs.State.{blank}
use Rattle.roll.specs.Rolls.{rank_of, Rising, last_of, put_in, tables_from, Roll, Next, Says}

rising_snoc : (m : ℕ) (xs : List Record) (x : Record) → Rising m xs → last_of m xs < rank_of x → Rising m (xs ++ x ∷ [])
rising_snoc m [] x h l = (l, tt)
rising_snoc m (y ∷ xs) x h l = (h.0, rising_snoc (rank_of y) xs x h.1 l)

last_snoc : (m : ℕ) (xs : List Record) (x : Record) → last_of m (xs ++ x ∷ []) ≡ rank_of x
last_snoc m [] x = refl
last_snoc m (y ∷ xs) x = last_snoc (rank_of y) xs x

tables_snoc : (t : Tables) (xs : List Record) (x : Record) → tables_from t (xs ++ x ∷ []) ≡ put_in (tables_from t xs) x
tables_snoc t [] x = refl
tables_snoc t (y ∷ xs) x = tables_snoc (put_in t y) xs x

pub some_bytes : (x : Record) → 0 < length (encode x)
some_bytes (record_of.User u) = omega arith
some_bytes (record_of.Group g) = omega arith
some_bytes (record_of.Object o) = omega arith

-- the records rs were read
pub record Sofar (bytes : List ℕ) (c : Cursor) (last : ℕ) (t : Tables) (rs : List Record) : Type 0 where
  pub roll : Roll rs
  pub place : c.place ≡ length (flat_map encode rs)
  pub split : bytes ≡ flat_map encode rs ++ left c
  pub last_is : last ≡ last_of 0 rs
  pub made : t ≡ tables_from blank rs

pub sofar_start : (bytes : List ℕ) (c : Cursor) (t : Tables) → c.bytes.now ≡ bytes → c.place ≡ 0 → t ≡ blank → Sofar bytes c 0 t []
sofar_start bytes c t e p b = record { roll = record { forms = tt; rises = tt }; place = p; split = sym (ap (λ k. drop k c.bytes.now) p ∙ e); last_is = refl; made = b }

module _ {bytes : List ℕ} {a : Cursor} {last : ℕ} {t : Tables} {rs : List Record} (s : Sofar bytes a last t rs) where
  pub sofar_more : {b : Cursor} (x : Record) → InForm x → Took a b (encode x) → last < rank_of x → Sofar bytes b (rank_of x) (put_in t x) (rs ++ x ∷ [])
  sofar_more {b} x f k lt =
      let j : flat_map encode rs ++ encode x ≡ flat_map encode (rs ++ x ∷ []) = flat_map_more encode [] rs x in
      record {
        roll = record { forms = all_by_recursion_push InForm rs x s.roll.forms f; rises = rising_snoc 0 rs x s.roll.rises (subst (λ m. m < rank_of x) s.last_is lt) };
        place = let n = length-append (flat_map encode rs) (encode x) in k.place ∙ ap (λ m. m + length (encode x)) s.place ∙ sym n ∙ ap length j;
        split = s.split ∙ ap (λ l. flat_map encode rs ++ l) k.split ∙ sym (append_assoc (flat_map encode rs) (encode x) (left b)) ∙ ap (λ l. l ++ left b) j;
        last_is = sym (last_snoc 0 rs x);
        made = ap (λ u. put_in u x) s.made ∙ sym (tables_snoc blank rs x);
      }

  next : (p : ℕ) (f : RecordFault) → a.place ≡ p → Faulty a.place (left a) f → Next rs p (left a) f
  next p (record_fault.Bytes e) q w = subst (λ p. Faulty p (left a) (record_fault.Bytes e)) q w
  next p (record_fault.Form n) q w = subst (λ p. Faulty p (left a) (record_fault.Form n)) q w
  next p (record_fault.Order n) q w = absurd w

  pub sofar_fault : (f : RecordFault) → 0 < length (left a) → Faulty a.place (left a) f → Says bytes (Err f)
  sofar_fault f some w = (rs, left a, s.roll, s.split, some, next (length (flat_map encode rs)) f s.place w)

  pub sofar_order : {b : Cursor} (x : Record) (q : ℕ) → 0 < length (left a) → q ≡ a.place → InForm x → Took a b (encode x) → rank_of x ≤ last → Says bytes (Err (record_fault.Order q))
  sofar_order {b} x q some e f k le = (rs, left a, s.roll, s.split, some, (e ∙ s.place, (x, left b, f, k.split, subst (λ m. rank_of x ≤ m) s.last_is le)))

  pub sofar_done : length (left a) ≡ 0 → Says bytes (Ok t)
  sofar_done none = (rs, s.roll, s.split ∙ ap (λ l. flat_map encode rs ++ l) (nil_from_length (left a) none) ∙ append-nil (flat_map encode rs), s.made)

pub shorter : {a b : Cursor} (x : Record) → Took a b (encode x) → length (left b) < length (left a)
shorter {a} {b} x k = omega (arith, ap length k.split ∙ length-append (encode x) (left b), some_bytes x)
