-- Tables that a roll can say stay so through every granted call. Assumes nothing.
use Rattle.std.proofs.Common.{◌≡◌, ℕ, zero, suc, ◌^◌, ◌<◌, ◌≤◌, Bool, true, false, ltb, List, [], ◌∷◌, map, length, get_or, set, replicate, is_some, Some, None, Option, unwrap_or, sym, refl, ap, ◌∙◌, subst, inl, inr, arith}
use lib.Bits.{bit_xor}
use Rattle.std.proofs.lemmas.Nat.{or_lt, xor_lt, pow_below}
use Rattle.std.proofs.lemmas.List.{length-set, map-set}
use Rattle.std.proofs.lemmas.Bool.{cases_Bool, cond-true, cond-false, ltb-true, false≢true, both_ways, cases_lt}
use Rattle.std.specs.List.{AllByRecursion}
use Rattle.std.specs.Option.{option_map}
use Rattle.labels.specs.Meaning.{Meaning, Lawful}
use Rattle.tables.specs.declared.sets.Rights.{Rights as RightSet}
use Rattle.tables.specs.Sets.{has, with_element, without_element, inserted}
use Rattle.tables.proofs.Bitwise.{has_past}
use Rattle.tables.specs.declared.types.Kind.{Kind}
use Rattle.tables.specs.declared.types.Kind.TheVariants.{Container, File, Program}
use Rattle.tables.specs.declared.types.User.{User}
use Rattle.tables.specs.declared.types.Object.{Object}
use Rattle.tables.specs.declared.types.Tables.{Tables}
use Rattle.tables.specs.State.{subject, has_user, has_object, no_rights}
use Rattle.tables.specs.Changes.{moved, relabelled, remixed, regranted, listing, unlisting}
use Rattle.tables.proofs.Puts.{within, at_put, at_map}
use Rattle.records.specs.Records.{InForm}
use Rattle.records.specs.Rights.{RightsForm}
use Rattle.roll.specs.Formed.{Sized, Formed}
use Rattle.tables.specs.Kinds.{kind_of, number_of_kind}
use Rattle.roll.specs.Slots.{user_record, group_record, object_record, rights_byte}
use Rattle.calls.specs.declared.types.Call.{Call}
use Rattle.calls.specs.declared.types.Call.TheVariants.{Enter, Launch, Leave, Read, Write, Create, Delete, Move, Raise, Mix, Unmix, Rights, Allow, Bar}
use Rattle.calls.specs.Calls.{asks, AllFine}
use Rattle.calls.specs.Effects.{effect, created}
use Rattle.histories.specs.Kept.{Peopled}

none_some : {A : Type 0} {x : A} → None ≡ Some x → ⊥
none_some {A} {x} e = false≢true (ap (λ (o : Option A). is_some o) e)

some_same : {A : Type 0} {x y : A} → Some x ≡ Some y → x ≡ y
some_same {A} {x} e = ap (λ (o : Option A). unwrap_or o x) e

-- what stands in each slot of a table
module _ {A : Type 0} (R : ℕ → A → Type 0) where
  abbrev AllIn : List (Option A) → Type 0
  AllIn l = (n : ℕ) (x : A) → get_or l n None ≡ Some x → R n x

  put_in : (l : List (Option A)) (i : ℕ) (v : Option A) → AllIn l → ((x : A) → v ≡ Some x → R i x) → AllIn (set l i v)
  put_in l i v all here n =
      at_put (λ (w : Option A). (x : A) → w ≡ Some x → R n x) l i n v (λ e. subst (λ (k : ℕ). (x : A) → v ≡ Some x → R k x) e here) (all n)

  from_mapped : (f : A → A) (n : ℕ) (o : Option A) → ((x : A) → o ≡ Some x → R n (f x)) → (y : A) → option_map f o ≡ Some y → R n y
  from_mapped f n None h y e = absurd (none_some e)
  from_mapped f n (Some x) h y e = subst (R n) (ap (λ (o : Option A). unwrap_or o (f x)) e) (h x refl)

  changed_in : (l : List (Option A)) (i : ℕ) (f : A → A) → AllIn l → ((x : A) → R i x → R i (f x)) → AllIn (set l i (option_map f (get_or l i None)))
  changed_in l i f all h = put_in l i (option_map f (get_or l i None)) all (from_mapped f i (get_or l i None) (λ x e. h x (all i x e)))

  map_in : (l : List (Option A)) (f : A → A) → AllIn l → ((n : ℕ) (x : A) → R n x → R n (f x)) → AllIn (map (option_map f) l)
  map_in l f all h n =
      at_map (λ (o w : Option A). ((x : A) → o ≡ Some x → R n x) → (y : A) → w ≡ Some y → R n y) (option_map f) l n refl (λ o k. from_mapped f n o (λ x e. h n x (k x e))) (all n)

every_set : (l : List ℕ) (i v : ℕ) → AllByRecursion (λ b. b < 128) l → v < 128 → AllByRecursion (λ b. b < 128) (set l i v)
every_set [] i v all p = tt
every_set (x ∷ l) zero v all p = (p, all.1)
every_set (x ∷ l) (suc i) v all p = (all.0, every_set l i v all.1 p)

every_none : (n : ℕ) → AllByRecursion (λ b. b < 128) (map rights_byte (replicate n no_rights))
every_none zero = tt
every_none (suc n) = ((omega arith), every_none n)

kind_small : (k : Kind) → number_of_kind k ≤ 2
kind_small Container = omega arith
kind_small File = omega arith
kind_small Program = omega arith

inserted_small : (n k : ℕ) → n < 2 ^ 64 → inserted n k < 2 ^ 64
inserted_small n k h = elim (cases_Bool (ltb k 64)) [
  | inl e ↦ subst (λ (x : ℕ). x < 2 ^ 64) (sym (cond-true (ltb k 64) (with_element n k) n e)) (or_lt 64 n (2 ^ k) h (pow_below k 64 (ltb-true k 64 e)))
  | inr e ↦ subst (λ (x : ℕ). x < 2 ^ 64) (sym (cond-false (ltb k 64) (with_element n k) n e)) h
]

without_small : (n k : ℕ) → n < 2 ^ 64 → without_element n k < 2 ^ 64
without_small n k h = elim (cases_Bool (has n k)) [
  | inl e ↦ subst (λ (x : ℕ). x < 2 ^ 64) (sym (cond-true (has n k) (bit_xor n (2 ^ k)) n e)) (xor_lt 64 n (2 ^ k) h (one_below e))
  | inr e ↦ subst (λ (x : ℕ). x < 2 ^ 64) (sym (cond-false (has n k) (bit_xor n (2 ^ k)) n e)) h
]
  where
    one_below : has n k ≡ true → 2 ^ k < 2 ^ 64
    one_below e = elim (cases_lt n (2 ^ k)) [
      | inl lt ↦ absurd (both_ways (has n k) (has_past n k lt) e)
      | inr ge ↦ omega arith
    ]

abbrev UserIn : ℕ → User → Type 0
UserIn n u = InForm (user_record n u)

abbrev ObjectIn : ℕ → Object → Type 0
ObjectIn n o = InForm (object_record n o)

listing_in : (o n : ℕ) (u : User) → UserIn n u → UserIn n (listing o u)
listing_in o n u ((g, a, f, t), small) = ((g, inserted_small u.allowed.0 o a, f, t), small)

unlisting_in : (o n : ℕ) (u : User) → UserIn n u → UserIn n (unlisting o u)
unlisting_in o n u ((g, a, f, t), small) = ((g, without_small u.allowed.0 o a, f, t), small)

module _ (n : ℕ) (x : Object) (is : ObjectIn n x) where
  moved_in : (q : ℕ) → q < 256 → ObjectIn n (moved q x)
  moved_in q h = (record { parent = h; kind = is.0.kind; owner = is.0.owner; label = is.0.label; groups = is.0.groups; rights = is.0.rights }, is.1)

  relabelled_in : (l : ℕ) → l < 2 ^ 64 → ObjectIn n (relabelled l x)
  relabelled_in l h = (record { parent = is.0.parent; kind = is.0.kind; owner = is.0.owner; label = h; groups = is.0.groups; rights = is.0.rights }, is.1)

  remixed_in : (b : Bool) → ObjectIn n (remixed b x)
  remixed_in b = (record { parent = is.0.parent; kind = is.0.kind; owner = is.0.owner; label = is.0.label; groups = is.0.groups; rights = is.0.rights }, is.1)

  regranted_in : (u mask : ℕ) → mask < 128 → ObjectIn n (regranted u (record { 0 = mask }) x)
  regranted_in u mask h = (record { parent = is.0.parent; kind = is.0.kind; owner = is.0.owner; label = is.0.label; groups = is.0.groups; rights = rights }, is.1)
    where
      as_set : map rights_byte (set x.rights u (record { 0 = mask })) ≡ set (map rights_byte x.rights) u mask
      as_set = map-set rights_byte x.rights u (record { 0 = mask })

      rights : RightsForm (map rights_byte (set x.rights u (record { 0 = mask })))
      rights =
          subst RightsForm (sym as_set) (record { users = length-set (map rights_byte x.rights) u mask ∙ is.0.rights.users; clear = every_set (map rights_byte x.rights) u mask is.0.rights.clear h })

module _ (m : Meaning) (laws : Lawful m) (t : Tables) (formed : Formed t) (peopled : Peopled t) where
  user_small : (u : ℕ) → has_user t u ≡ true → u < 256
  user_small u h = let e = formed.sized.users in let k : u < length t.users = within t.users u h in omega arith

  object_small : (o : ℕ) → has_object t o ≡ true → o < 256
  object_small o h = let e = formed.sized.objects in let k : o < length t.objects = within t.objects o h in omega arith

  created_in : (u p n k l : ℕ) → n < 64 → u < 256 → p < 256 → l < 2 ^ 64 → ObjectIn n (created u p k l)
  created_in u p n k l small hu hp hl = (
    record { parent = hp; kind = kind_small (kind_of k); owner = hu; label = hl; groups = omega arith; rights = record { users = refl; clear = every_none 16 } },
    small,
  )

  users_on : (c : Call) → AllFine (asks m t c) → AllIn UserIn (effect t c).users
  users_on (Enter u n l) fine = formed.users
  users_on (Launch s o n l) fine = formed.users
  users_on (Leave s) fine = formed.users
  users_on (Read s o) fine = formed.users
  users_on (Write s o) fine = formed.users
  users_on (Create s p n k l) fine = formed.users
  users_on (Delete s o) fine = map_in UserIn t.users (unlisting o) formed.users (unlisting_in o)
  users_on (Move s o q) fine = formed.users
  users_on (Raise s o l) fine = formed.users
  users_on (Mix s o) fine = formed.users
  users_on (Unmix s o) fine = formed.users
  users_on (Rights s o u mask) fine = formed.users
  users_on (Allow s u o) fine = changed_in UserIn t.users u (listing o) formed.users (listing_in o u)
  users_on (Bar s u o) fine = changed_in UserIn t.users u (unlisting o) formed.users (unlisting_in o u)

  objects_on : (c : Call) → AllFine (asks m t c) → AllIn ObjectIn (effect t c).objects
  objects_on (Enter u n l) fine = formed.objects
  objects_on (Launch s o n l) fine = formed.objects
  objects_on (Leave s) fine = formed.objects
  objects_on (Read s o) fine = formed.objects
  objects_on (Write s o) fine = formed.objects
  objects_on (Create s p n k l) fine =
      put_in ObjectIn t.objects n (Some (created (subject t s).user p k l)) formed.objects (λ x e. subst (ObjectIn n) (some_same e) (created_in (subject t s).user p n k l fine.1.1.0 (user_small (subject t s).user (peopled s fine.0)) (object_small p fine.1.0) (laws.small l fine.1.1.1.1.0)))
  objects_on (Delete s o) fine = put_in ObjectIn t.objects o None formed.objects (λ x e. absurd (none_some e))
  objects_on (Move s o q) fine = changed_in ObjectIn t.objects o (moved q) formed.objects (λ x h. moved_in o x h q (object_small q fine.1.1.0))
  objects_on (Raise s o l) fine = changed_in ObjectIn t.objects o (relabelled l) formed.objects (λ x h. relabelled_in o x h l (laws.small l fine.1.1.0))
  objects_on (Mix s o) fine = changed_in ObjectIn t.objects o (remixed true) formed.objects (λ x h. remixed_in o x h true)
  objects_on (Unmix s o) fine = changed_in ObjectIn t.objects o (remixed false) formed.objects (λ x h. remixed_in o x h false)
  objects_on (Rights s o u mask) fine =
      changed_in ObjectIn t.objects o (regranted u (record { 0 = mask })) formed.objects (λ x h. regranted_in o x h u mask fine.1.1.1.0)
  objects_on (Allow s u o) fine = formed.objects
  objects_on (Bar s u o) fine = formed.objects

  groups_on : (c : Call) → (effect t c).groups ≡ t.groups
  groups_on (Enter u n l) = refl
  groups_on (Launch s o n l) = refl
  groups_on (Leave s) = refl
  groups_on (Read s o) = refl
  groups_on (Write s o) = refl
  groups_on (Create s p n k l) = refl
  groups_on (Delete s o) = refl
  groups_on (Move s o q) = refl
  groups_on (Raise s o l) = refl
  groups_on (Mix s o) = refl
  groups_on (Unmix s o) = refl
  groups_on (Rights s o u mask) = refl
  groups_on (Allow s u o) = refl
  groups_on (Bar s u o) = refl

  pub formed_on : (c : Call) → AllFine (asks m t c) → Sized (effect t c) → Formed (effect t c)
  formed_on c fine sized = record {
    sized = sized;
    users = users_on c fine;
    groups = subst (λ (gs : List (Option RightSet)). (n : ℕ) (r : RightSet) → get_or gs n None ≡ Some r → InForm (group_record n r)) (sym (groups_on c)) formed.groups;
    objects = objects_on c fine;
  }
