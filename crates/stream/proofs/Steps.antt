-- Calls that are read one after another. Assumes nothing.
use Rattle.std.proofs.Common.{◌≡◌, ℕ, ◌+◌, ◌<◌, List, [], ◌∷◌, ◌++◌, length, drop, Some, None, sym, ap, ◌∙◌, subst, append_assoc, append-nil, arith, length-append}
use Rattle.std.specs.List.{flat_map, AllByRecursion}
use Rattle.std.proofs.slice.Lists.{all_by_recursion_push}
use Rattle.std.proofs.lemmas.List.{flat_map_more}
use Rattle.byte_cursor.specs.declared.cursors.Cursor.{Cursor}
use Rattle.byte_cursor.specs.Bytes.{left, Took}
use Rattle.calls.specs.declared.types.Call.{Call}
use Rattle.stream.specs.declared.faults.CallFault.{CallFault}
use Rattle.stream.specs.Forms.{encode, InForm}
use Rattle.stream.specs.Faults.{Faulty}
use Rattle.stream.specs.Streams.{Streams}

-- the calls xs were read from the bytes, up to where the cursor stands
pub record Sofar (bytes : List ℕ) (c : Cursor) (xs : List Call) : Type 0 where
  pub forms : AllByRecursion InForm xs
  pub place : c.place ≡ length (flat_map encode xs)
  pub split : bytes ≡ flat_map encode xs ++ left c

pub sofar_start : (bytes : List ℕ) (c : Cursor) → c.bytes.now ≡ bytes → c.place ≡ 0 → Sofar bytes c []
sofar_start bytes c e p = record { forms = tt; place = p; split = sym (ap (λ k. drop k c.bytes.now) p ∙ e) }

module _ {bytes : List ℕ} {a : Cursor} {xs : List Call} (s : Sofar bytes a xs) where
  -- one more call was read
  pub sofar_more : {b : Cursor} (x : Call) → InForm x → Took a b (encode x) → Sofar bytes b (xs ++ x ∷ [])
  sofar_more {b} x f k =
      let j : flat_map encode xs ++ encode x ≡ flat_map encode (xs ++ x ∷ []) = flat_map_more encode [] xs x in
      record {
        forms = all_by_recursion_push InForm xs x s.forms f;
        place = let n = length-append (flat_map encode xs) (encode x) in k.place ∙ ap (λ m. m + length (encode x)) s.place ∙ sym n ∙ ap length j;
        split = s.split ∙ ap (λ l. flat_map encode xs ++ l) k.split ∙ sym (append_assoc (flat_map encode xs) (encode x) (left b)) ∙ ap (λ l. l ++ left b) j;
      }

  -- the next call cannot be read
  pub sofar_fault : (f : CallFault) → 0 < length (left a) → Faulty a.place (left a) f → Streams bytes xs (Some f)
  sofar_fault f more w = (left a, s.forms, s.split, more, subst (λ p. Faulty p (left a) f) s.place w)

  -- nothing is left
  pub sofar_done : left a ≡ [] → Streams bytes xs None
  sofar_done none = (s.forms, s.split ∙ ap (λ l. flat_map encode xs ++ l) none ∙ append-nil (flat_map encode xs))

-- a call takes at least two bytes
pub shorter : {a b : Cursor} (x : Call) → Took a b (encode x) → length (left b) < length (left a)
shorter {a} {b} x k = omega (arith, ap length k.split ∙ length-append (encode x) (left b))
