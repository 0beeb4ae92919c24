-- A roll's records and the tables they make say the same. Assumes nothing.
use Rattle.std.proofs.Common.{◌≡◌, ℕ, zero, suc, ◌+◌, ◌<◌, ◌≤◌, ◌⊎◌, List, [], ◌∷◌, ◌++◌, map, length, get_or, set, replicate, Some, None, Option, sym, refl, ap, ◌∙◌, subst, ap₂, inl, inr, append_assoc, append-nil, arith, length-append}
use lib.ListN.{length-replicate}
use Rattle.std.specs.List.{AllByRecursion}
use Rattle.tables.specs.Kinds.{kind_of, number_of_kind}
use Rattle.tables.specs.State.{blank}
use Rattle.tables.specs.declared.sets.Rights.{Rights}
use Rattle.tables.specs.declared.types.Kind.{Kind}
use Rattle.tables.specs.declared.types.Kind.TheVariants.{Container, File, Program}
use Rattle.tables.specs.declared.types.User.{User}
use Rattle.tables.specs.declared.types.Object.{Object}
use Rattle.tables.specs.declared.types.Tables.{Tables}
use Rattle.records.specs.declared.forms.ObjectRecord.{ObjectRecord}
use Rattle.records.specs.declared.forms.Record.{Record}
use Rattle.records.specs.declared.forms.Record.TheVariants as record_of
use Rattle.records.specs.Records.{InForm}
use Rattle.roll.specs.Slots.{rights_of, rights_byte, user_of, role_of, object_of, user_record, group_record, object_record, slots, records_of}
use Rattle.roll.specs.Rolls.{rank_of, Rising, Roll, put_in, tables_from}
use Rattle.roll.specs.Formed.{Sized, Formed, alone}
use Rattle.roll.proofs.Filling.{puts, length_puts, Ascend, Within, records_at, read_back}

-- the records of one kind, with what they put into their slots
abbrev users_in : List Record → List (ℕ × User)
users_in [] = []
users_in (record_of.User u ∷ rs) = (u.number, user_of u) ∷ users_in rs
users_in (record_of.Group g ∷ rs) = users_in rs
users_in (record_of.Object o ∷ rs) = users_in rs

abbrev groups_in : List Record → List (ℕ × Rights)
groups_in [] = []
groups_in (record_of.User u ∷ rs) = groups_in rs
groups_in (record_of.Group g ∷ rs) = (g.number, role_of g) ∷ groups_in rs
groups_in (record_of.Object o ∷ rs) = groups_in rs

abbrev objects_in : List Record → List (ℕ × Object)
objects_in [] = []
objects_in (record_of.User u ∷ rs) = objects_in rs
objects_in (record_of.Group g ∷ rs) = objects_in rs
objects_in (record_of.Object o ∷ rs) = (o.number, object_of o) ∷ objects_in rs

-- the tables that records make, kind by kind
made : (t : Tables) (rs : List Record) → ◌≡◌ {A = Tables} (tables_from t rs)
    (record { users = puts t.users (users_in rs); groups = puts t.groups (groups_in rs); subjects = t.subjects; objects = puts t.objects (objects_in rs) })
made t [] = refl
made t (record_of.User u ∷ rs) = made (put_in t (record_of.User u)) rs
made t (record_of.Group g ∷ rs) = made (put_in t (record_of.Group g)) rs
made t (record_of.Object o ∷ rs) = made (put_in t (record_of.Object o)) rs

-- each kind ascends
users_ascend : (m k : ℕ) (rs : List Record) → Rising m rs → (256 + k ≤ suc m) ⊎ (k ≡ 0) → Ascend k (users_in rs)
users_ascend m k [] up le = tt
users_ascend m k (record_of.User u ∷ rs) up (inl le) = let lt = up.0 in (omega arith, users_ascend (256 + u.number) (suc u.number) rs up.1 (inl (omega arith)))
users_ascend m k (record_of.User u ∷ rs) up (inr z) = (omega arith, users_ascend (256 + u.number) (suc u.number) rs up.1 (inl (omega arith)))
users_ascend m k (record_of.Group g ∷ rs) up (inl le) = let lt = up.0 in users_ascend (512 + g.number) k rs up.1 (inl (omega arith))
users_ascend m k (record_of.Group g ∷ rs) up (inr z) = users_ascend (512 + g.number) k rs up.1 (inr z)
users_ascend m k (record_of.Object o ∷ rs) up (inl le) = let lt = up.0 in users_ascend (768 + o.number) k rs up.1 (inl (omega arith))
users_ascend m k (record_of.Object o ∷ rs) up (inr z) = users_ascend (768 + o.number) k rs up.1 (inr z)

groups_ascend : (m k : ℕ) (rs : List Record) → Rising m rs → (512 + k ≤ suc m) ⊎ (k ≡ 0) → Ascend k (groups_in rs)
groups_ascend m k [] up le = tt
groups_ascend m k (record_of.User u ∷ rs) up (inl le) = let lt = up.0 in groups_ascend (256 + u.number) k rs up.1 (inl (omega arith))
groups_ascend m k (record_of.User u ∷ rs) up (inr z) = groups_ascend (256 + u.number) k rs up.1 (inr z)
groups_ascend m k (record_of.Group g ∷ rs) up (inl le) = let lt = up.0 in (omega arith, groups_ascend (512 + g.number) (suc g.number) rs up.1 (inl (omega arith)))
groups_ascend m k (record_of.Group g ∷ rs) up (inr z) = (omega arith, groups_ascend (512 + g.number) (suc g.number) rs up.1 (inl (omega arith)))
groups_ascend m k (record_of.Object o ∷ rs) up (inl le) = let lt = up.0 in groups_ascend (768 + o.number) k rs up.1 (inl (omega arith))
groups_ascend m k (record_of.Object o ∷ rs) up (inr z) = groups_ascend (768 + o.number) k rs up.1 (inr z)

objects_ascend : (m k : ℕ) (rs : List Record) → Rising m rs → (768 + k ≤ suc m) ⊎ (k ≡ 0) → Ascend k (objects_in rs)
objects_ascend m k [] up le = tt
objects_ascend m k (record_of.User u ∷ rs) up (inl le) = let lt = up.0 in objects_ascend (256 + u.number) k rs up.1 (inl (omega arith))
objects_ascend m k (record_of.User u ∷ rs) up (inr z) = objects_ascend (256 + u.number) k rs up.1 (inr z)
objects_ascend m k (record_of.Group g ∷ rs) up (inl le) = let lt = up.0 in objects_ascend (512 + g.number) k rs up.1 (inl (omega arith))
objects_ascend m k (record_of.Group g ∷ rs) up (inr z) = objects_ascend (512 + g.number) k rs up.1 (inr z)
objects_ascend m k (record_of.Object o ∷ rs) up (inl le) = let lt = up.0 in (omega arith, objects_ascend (768 + o.number) (suc o.number) rs up.1 (inl (omega arith)))
objects_ascend m k (record_of.Object o ∷ rs) up (inr z) = (omega arith, objects_ascend (768 + o.number) (suc o.number) rs up.1 (inl (omega arith)))

-- and has numbers of its table
users_within : (rs : List Record) → AllByRecursion InForm rs → Within 16 (users_in rs)
users_within [] h = tt
users_within (record_of.User u ∷ rs) h = (h.0.1, users_within rs h.1)
users_within (record_of.Group g ∷ rs) h = users_within rs h.1
users_within (record_of.Object o ∷ rs) h = users_within rs h.1

groups_within : (rs : List Record) → AllByRecursion InForm rs → Within 16 (groups_in rs)
groups_within [] h = tt
groups_within (record_of.User u ∷ rs) h = groups_within rs h.1
groups_within (record_of.Group g ∷ rs) h = (h.0.1, groups_within rs h.1)
groups_within (record_of.Object o ∷ rs) h = groups_within rs h.1

objects_within : (rs : List Record) → AllByRecursion InForm rs → Within 64 (objects_in rs)
objects_within [] h = tt
objects_within (record_of.User u ∷ rs) h = objects_within rs h.1
objects_within (record_of.Group g ∷ rs) h = objects_within rs h.1
objects_within (record_of.Object o ∷ rs) h = (h.0.1, objects_within rs h.1)

-- the kinds stand one after another
no_users : (m : ℕ) (rs : List Record) → Rising m rs → AllByRecursion InForm rs → 512 ≤ m → users_in rs ≡ []
no_users m [] up form le = refl
no_users m (record_of.User u ∷ rs) up form le = let lt = up.0 in let few = form.0.1 in absurd (omega arith)
no_users m (record_of.Group g ∷ rs) up form le = no_users (512 + g.number) rs up.1 form.1 (omega arith)
no_users m (record_of.Object o ∷ rs) up form le = no_users (768 + o.number) rs up.1 form.1 (omega arith)

no_groups : (m : ℕ) (rs : List Record) → Rising m rs → AllByRecursion InForm rs → 768 ≤ m → groups_in rs ≡ []
no_groups m [] up form le = refl
no_groups m (record_of.User u ∷ rs) up form le = let lt = up.0 in let few = form.0.1 in absurd (omega arith)
no_groups m (record_of.Group g ∷ rs) up form le = let lt = up.0 in let few = form.0.1 in absurd (omega arith)
no_groups m (record_of.Object o ∷ rs) up form le = no_groups (768 + o.number) rs up.1 form.1 (omega arith)

kind_back : (k : ℕ) → k ≤ 2 → number_of_kind (kind_of k) ≡ k
kind_back zero h = refl
kind_back (suc zero) h = refl
kind_back (suc (suc zero)) h = refl
kind_back (suc (suc (suc k))) h = absurd (omega arith)

rights_back : (rs : List ℕ) → map rights_byte (map rights_of rs) ≡ rs
rights_back [] = refl
rights_back (b ∷ rs) = ap (λ (l : List ℕ). b ∷ l) (rights_back rs)

-- a record says what it is the record of
object_back : (o : ObjectRecord) → o.kind ≤ 2 → object_record o.number (object_of o) ≡ record_of.Object o
object_back o h = λ i. record_of.Object (record {
  number = o.number;
  parent = o.parent;
  kind = kind_back o.kind h i;
  owner = o.owner;
  label = o.label;
  mixed = o.mixed;
  groups = o.groups;
  rights = rights_back o.rights i;
})

parts : (m : ℕ) (rs : List Record) → Rising m rs → AllByRecursion InForm rs
    → rs ≡ records_at user_record (users_in rs) ++ (records_at group_record (groups_in rs) ++ records_at object_record (objects_in rs))
parts m [] up form = refl
parts m (record_of.User u ∷ rs) up form = ap (λ (l : List Record). record_of.User u ∷ l) (parts (256 + u.number) rs up.1 form.1)
parts m (record_of.Group g ∷ rs) up form =
    let rest : List Record = records_at group_record (groups_in rs) ++ records_at object_record (objects_in rs) in
    let none : users_in rs ≡ [] = no_users (512 + g.number) rs up.1 form.1 (omega arith) in
    ap (λ (l : List Record). record_of.Group g ∷ l) (parts (512 + g.number) rs up.1 form.1 ∙ ap (λ (l : List (ℕ × User)). records_at user_record l ++ rest) none)
    ∙ sym (ap (λ (l : List (ℕ × User)). records_at user_record l ++ (record_of.Group g ∷ rest)) none)
parts m (record_of.Object o ∷ rs) up form =
    let rest : List Record = records_at object_record (objects_in rs) in
    let none : users_in rs ≡ [] = no_users (768 + o.number) rs up.1 form.1 (omega arith) in
    let none' : groups_in rs ≡ [] = no_groups (768 + o.number) rs up.1 form.1 (omega arith) in
    let this : record_of.Object o ≡ object_record o.number (object_of o) = sym (object_back o form.0.0.kind) in
    (λ i. this i ∷ (parts (768 + o.number) rs up.1 form.1 ∙ ap₂ (λ (k : List (ℕ × User)) (l : List (ℕ × Rights)). records_at user_record k ++ (records_at group_record l ++ rest)) none none') i)
    ∙ sym (ap₂ (λ (k : List (ℕ × User)) (l : List (ℕ × Rights)). records_at user_record k ++ (records_at group_record l ++ (object_record o.number (object_of o) ∷ rest))) none none')

blank_slots : {A : Type 0} (n : ℕ) (j : ℕ) → ◌≡◌ {A = Option A} (get_or (replicate n None) j None) None
blank_slots zero j = refl
blank_slots (suc n) zero = refl
blank_slots (suc n) (suc j) = blank_slots n j

-- the slots of one kind, filled from nothing
one_kind : {A : Type 0} (record_at : ℕ → A → Record) (k : ℕ) (ps : List (ℕ × A)) → Ascend 0 ps → Within k ps
    → slots record_at 0 (puts (replicate k None) ps) ≡ records_at record_at ps
one_kind {A} record_at k ps up within =
    read_back record_at (replicate k None) 0 ps up (subst (λ (n : ℕ). Within n ps) (sym (length-replicate k None)) within) (λ j h. blank_slots k j)

-- what a roll's records made is written as those records
pub taken_saved : (rs : List Record) → Roll rs → records_of (tables_from blank rs) ≡ rs
taken_saved rs roll =
    let us = one_kind user_record 16 (users_in rs) (users_ascend 0 0 rs roll.rises (inr refl)) (users_within rs roll.forms) in
    let gs = one_kind group_record 16 (groups_in rs) (groups_ascend 0 0 rs roll.rises (inr refl)) (groups_within rs roll.forms) in
    let os = one_kind object_record 64 (objects_in rs) (objects_ascend 0 0 rs roll.rises (inr refl)) (objects_within rs roll.forms) in
    ap records_of (made blank rs) ∙ (λ i. us i ++ (gs i ++ os i)) ∙ sym (parts 0 rs roll.rises roll.forms)

-- the slots that are not empty, with their numbers
abbrev pairs : {A : Type 0} → ℕ → List (Option A) → List (ℕ × A)
pairs n [] = []
pairs n (None ∷ xs) = pairs (suc n) xs
pairs n (Some x ∷ xs) = (n, x) ∷ pairs (suc n) xs

set_behind : {A : Type 0} (front : List A) (y x : A) (rest : List A) → set (front ++ (y ∷ rest)) (length front) x ≡ front ++ (x ∷ rest)
set_behind [] y x rest = refl
set_behind (f ∷ front) y x rest = ap (λ (l : List _). f ∷ l) (set_behind front y x rest)

puts_behind : {A : Type 0} (front xs : List (Option A)) (n : ℕ) → n ≡ length front → puts (front ++ replicate (length xs) None) (pairs n xs) ≡ front ++ xs
puts_behind front [] n e = refl
puts_behind {A} front (None ∷ xs) n e =
    ap (λ (l : List (Option A)). puts l (pairs (suc n) xs)) (sym (append_assoc front (None ∷ []) (replicate (length xs) None)))
    ∙ puts_behind (front ++ (None ∷ [])) xs (suc n) (omega (arith, length-append front (None ∷ [])))
    ∙ append_assoc front (None ∷ []) xs
puts_behind {A} front (Some x ∷ xs) n e =
    ap (λ (l : List (Option A)). puts l (pairs (suc n) xs))
    (ap (λ (k : ℕ). set (front ++ (None ∷ replicate (length xs) None)) k (Some x)) e ∙ set_behind front None (Some x) (replicate (length xs) None)
    ∙ sym (append_assoc front (Some x ∷ []) (replicate (length xs) None)))
    ∙ puts_behind (front ++ (Some x ∷ [])) xs (suc n) (omega (arith, length-append front (Some x ∷ [])))
    ∙ append_assoc front (Some x ∷ []) xs

-- slots that are filled with all that they held hold it again
puts_all : {A : Type 0} (k : ℕ) (xs : List (Option A)) → length xs ≡ k → puts (replicate k None) (pairs 0 xs) ≡ xs
puts_all {A} k xs e = ap (λ (n : ℕ). puts (replicate n None) (pairs 0 xs)) (sym e) ∙ puts_behind [] xs 0 refl

-- the records of one kind in a run that goes on
users_of : (n : ℕ) (xs : List (Option User)) (rest : List Record) → users_in rest ≡ [] → users_in (slots user_record n xs ++ rest) ≡ pairs n xs
users_of n [] rest none = none
users_of n (None ∷ xs) rest none = users_of (suc n) xs rest none
users_of n (Some x ∷ xs) rest none = ap (λ (l : List (ℕ × User)). (n, x) ∷ l) (users_of (suc n) xs rest none)

groups_of : (n : ℕ) (xs : List (Option Rights)) (rest : List Record) → groups_in rest ≡ [] → groups_in (slots group_record n xs ++ rest) ≡ pairs n xs
groups_of n [] rest none = none
groups_of n (None ∷ xs) rest none = groups_of (suc n) xs rest none
groups_of n (Some x ∷ xs) rest none = ap (λ (l : List (ℕ × Rights)). (n, x) ∷ l) (groups_of (suc n) xs rest none)

kind_forth : (k : Kind) → kind_of (number_of_kind k) ≡ k
kind_forth Container = refl
kind_forth File = refl
kind_forth Program = refl

rights_forth : (rs : List Rights) → map rights_of (map rights_byte rs) ≡ rs
rights_forth [] = refl
rights_forth (r ∷ rs) = ap (λ (l : List Rights). r ∷ l) (rights_forth rs)

abbrev object_again : Object → Object
object_again o = record {
  kind = kind_of (number_of_kind o.kind);
  parent = o.parent;
  owner = o.owner;
  label = o.label;
  mixed = o.mixed;
  groups = o.groups;
  rights = map rights_of (map rights_byte o.rights);
}

object_forth : (o : Object) → object_again o ≡ o
object_forth o = λ i. record {
  kind = kind_forth o.kind i;
  parent = o.parent;
  owner = o.owner;
  label = o.label;
  mixed = o.mixed;
  groups = o.groups;
  rights = rights_forth o.rights i;
}

objects_of : (n : ℕ) (xs : List (Option Object)) → objects_in (slots object_record n xs) ≡ pairs n xs
objects_of n [] = refl
objects_of n (None ∷ xs) = objects_of (suc n) xs
objects_of n (Some x ∷ xs) = λ i. (n, object_forth x i) ∷ objects_of (suc n) xs i

-- the records of other kinds are passed over
users_past_groups : (n : ℕ) (xs : List (Option Rights)) (rest : List Record) → users_in (slots group_record n xs ++ rest) ≡ users_in rest
users_past_groups n [] rest = refl
users_past_groups n (None ∷ xs) rest = users_past_groups (suc n) xs rest
users_past_groups n (Some x ∷ xs) rest = users_past_groups (suc n) xs rest

users_past_objects : (n : ℕ) (xs : List (Option Object)) → users_in (slots object_record n xs) ≡ []
users_past_objects n [] = refl
users_past_objects n (None ∷ xs) = users_past_objects (suc n) xs
users_past_objects n (Some x ∷ xs) = users_past_objects (suc n) xs

groups_past_users : (n : ℕ) (xs : List (Option User)) (rest : List Record) → groups_in (slots user_record n xs ++ rest) ≡ groups_in rest
groups_past_users n [] rest = refl
groups_past_users n (None ∷ xs) rest = groups_past_users (suc n) xs rest
groups_past_users n (Some x ∷ xs) rest = groups_past_users (suc n) xs rest

groups_past_objects : (n : ℕ) (xs : List (Option Object)) → groups_in (slots object_record n xs) ≡ []
groups_past_objects n [] = refl
groups_past_objects n (None ∷ xs) = groups_past_objects (suc n) xs
groups_past_objects n (Some x ∷ xs) = groups_past_objects (suc n) xs

objects_past_users : (n : ℕ) (xs : List (Option User)) (rest : List Record) → objects_in (slots user_record n xs ++ rest) ≡ objects_in rest
objects_past_users n [] rest = refl
objects_past_users n (None ∷ xs) rest = objects_past_users (suc n) xs rest
objects_past_users n (Some x ∷ xs) rest = objects_past_users (suc n) xs rest

objects_past_groups : (n : ℕ) (xs : List (Option Rights)) (rest : List Record) → objects_in (slots group_record n xs ++ rest) ≡ objects_in rest
objects_past_groups n [] rest = refl
objects_past_groups n (None ∷ xs) rest = objects_past_groups (suc n) xs rest
objects_past_groups n (Some x ∷ xs) rest = objects_past_groups (suc n) xs rest

-- what tables are written as makes them again, but for the subjects
pub saved_taken : (t : Tables) → Sized t → tables_from blank (records_of t) ≡ alone t
saved_taken t size =
    let os : List Record = slots object_record 0 t.objects in
    let gs : List Record = slots group_record 0 t.groups ++ os in
    let us : users_in (records_of t) ≡ pairs 0 t.users = users_of 0 t.users gs (users_past_groups 0 t.groups os ∙ users_past_objects 0 t.objects) in
    let grs : groups_in (records_of t) ≡ pairs 0 t.groups = groups_past_users 0 t.users gs ∙ groups_of 0 t.groups os (groups_past_objects 0 t.objects) in
    let obs : objects_in (records_of t) ≡ pairs 0 t.objects = objects_past_users 0 t.users gs ∙ objects_past_groups 0 t.groups os ∙ objects_of 0 t.objects in
    let a : puts (replicate 16 None) (users_in (records_of t)) ≡ t.users = ap (puts (replicate 16 None)) us ∙ puts_all 16 t.users size.users in
    let b : puts (replicate 16 None) (groups_in (records_of t)) ≡ t.groups = ap (puts (replicate 16 None)) grs ∙ puts_all 16 t.groups size.groups in
    let c : puts (replicate 64 None) (objects_in (records_of t)) ≡ t.objects = ap (puts (replicate 64 None)) obs ∙ puts_all 64 t.objects size.objects in
    made blank (records_of t) ∙ (λ i. record { users = a i; groups = b i; subjects = replicate 32 None; objects = c i })

-- and they are a roll
rising_slots : {A : Type 0} (record_at : ℕ → A → Record) (b c : ℕ) → ((n : ℕ) (x : A) → rank_of (record_at n x) ≡ b + n) → (rest : List Record) → ((m : ℕ) → m < c → Rising m rest)
    → (n : ℕ) (xs : List (Option A)) → b + (n + length xs) ≤ c → (m : ℕ) → m < b + n → m < c → Rising m (slots record_at n xs ++ rest)
rising_slots record_at b c rank rest up n [] le m lt low = up m low
rising_slots record_at b c rank rest up n (None ∷ xs) le m lt low = rising_slots record_at b c rank rest up (suc n) xs (omega arith) m (omega arith) low
rising_slots record_at b c rank rest up n (Some x ∷ xs) le m lt low =
    let e = rank n x in
    (omega arith, rising_slots record_at b c rank rest up (suc n) xs (omega arith) (rank_of (record_at n x)) (omega arith) (omega arith))

forms_slots : {A : Type 0} (record_at : ℕ → A → Record) (rest : List Record) → AllByRecursion InForm rest → (n : ℕ) (xs : List (Option A))
    → ((j : ℕ) (x : A) → get_or xs j None ≡ Some x → InForm (record_at (n + j) x)) → AllByRecursion InForm (slots record_at n xs ++ rest)
forms_slots record_at rest all n [] form = all
forms_slots record_at rest all n (None ∷ xs) form =
    forms_slots record_at rest all (suc n) xs (λ j x e. let k : n + suc j ≡ suc n + j = omega arith in subst (λ (i : ℕ). InForm (record_at i x)) k (form (suc j) x e))
forms_slots record_at rest all n (Some x ∷ xs) form = (
  (let k : n + 0 ≡ n = omega arith in subst (λ (i : ℕ). InForm (record_at i x)) k (form 0 x refl)),
  forms_slots record_at rest all (suc n) xs (λ j y e. let k : n + suc j ≡ suc n + j = omega arith in subst (λ (i : ℕ). InForm (record_at i y)) k (form (suc j) y e)),
)

from_zero : {A : Type 0} (record_at : ℕ → A → Record) (xs : List (Option A)) → ((j : ℕ) (x : A) → get_or xs j None ≡ Some x → InForm (record_at j x))
    → (j : ℕ) (x : A) → get_or xs j None ≡ Some x → InForm (record_at (0 + j) x)
from_zero record_at xs form j x e = let k : j ≡ 0 + j = omega arith in subst (λ (i : ℕ). InForm (record_at i x)) k (form j x e)

pub saved_roll : (t : Tables) → Formed t → Roll (records_of t)
saved_roll t formed =
    let os : List Record = slots object_record 0 t.objects in
    let objects-up : (m : ℕ) → m < 768 → Rising m os
    = λ m lt. subst (Rising m) (append-nil os) (rising_slots object_record 768 832 (λ n x. refl) [] (λ _ _. tt) 0 t.objects (omega (arith, formed.sized.objects)) m (omega arith) (omega arith)) in
    let groups-up : (m : ℕ) → m < 512 → Rising m (slots group_record 0 t.groups ++ os)
    = λ m lt. rising_slots group_record 512 768 (λ n x. refl) os objects-up 0 t.groups (omega (arith, formed.sized.groups)) m (omega arith) (omega arith) in
    let form-os : AllByRecursion InForm os = subst (AllByRecursion InForm) (append-nil os) (forms_slots object_record [] tt 0 t.objects (from_zero object_record t.objects formed.objects)) in
    record {
      forms = forms_slots user_record (slots group_record 0 t.groups ++ os) (forms_slots group_record os form-os 0 t.groups (from_zero group_record t.groups formed.groups)) 0 t.users (from_zero user_record t.users formed.users);
      rises = rising_slots user_record 256 512 (λ n x. refl) (slots group_record 0 t.groups ++ os) groups-up 0 t.users (omega (arith, formed.sized.users)) 0 (omega arith) (omega arith);
    }

-- each slot's record is among them
abbrev AllAt : {A : Type 0} → (ℕ → A → Record) → ℕ → List (Option A) → Type 0
AllAt {A} record_at n xs = (j : ℕ) (x : A) → get_or xs j None ≡ Some x → InForm (record_at (n + j) x)

at_none : {A : Type 0} (record_at : ℕ → A → Record) (n : ℕ) (xs : List (Option A)) → AllAt record_at (suc n) xs → AllAt record_at n (None ∷ xs)
at_none record_at n xs all zero x e = let z : ◌≡◌ {A = ℕ} 0 1 = cc in absurd (omega arith)
at_none record_at n xs all (suc j) x e = let k : suc n + j ≡ n + suc j = omega arith in subst (λ (i : ℕ). InForm (record_at i x)) k (all j x e)

at_some : {A : Type 0} (record_at : ℕ → A → Record) (n : ℕ) (y : A) (xs : List (Option A)) → InForm (record_at n y) → AllAt record_at (suc n) xs → AllAt record_at n (Some y ∷ xs)
at_some {A} record_at n y xs one all zero x e = let k : n ≡ n + 0 = omega arith in let same : y ≡ x = cc in subst (λ (i : ℕ). InForm (record_at i x)) k (subst (λ (z : A). InForm (record_at n z)) same one)
at_some record_at n y xs one all (suc j) x e = let k : suc n + j ≡ n + suc j = omega arith in subst (λ (i : ℕ). InForm (record_at i x)) k (all j x e)

every_slot : {A : Type 0} (record_at : ℕ → A → Record) (rest : List Record) (n : ℕ) (xs : List (Option A)) → AllByRecursion InForm (slots record_at n xs ++ rest)
    → AllAt record_at n xs × AllByRecursion InForm rest
every_slot record_at rest n [] all = ((λ j x e. let z : ◌≡◌ {A = ℕ} 0 1 = cc in absurd (omega arith)), all)
every_slot record_at rest n (None ∷ xs) all = let more = every_slot record_at rest (suc n) xs all in (at_none record_at n xs more.0, more.1)
every_slot record_at rest n (Some y ∷ xs) all = let more = every_slot record_at rest (suc n) xs all.1 in (at_some record_at n y xs all.0 more.0, more.1)

to_zero : {A : Type 0} (record_at : ℕ → A → Record) (xs : List (Option A)) → ((j : ℕ) (x : A) → get_or xs j None ≡ Some x → InForm (record_at (0 + j) x))
    → (j : ℕ) (x : A) → get_or xs j None ≡ Some x → InForm (record_at j x)
to_zero record_at xs form j x e = let k : 0 + j ≡ j = omega arith in subst (λ (i : ℕ). InForm (record_at i x)) k (form j x e)

-- the tables that a roll's records make can be written as a roll
pub taken_formed : (rs : List Record) → Roll rs → Formed (tables_from blank rs)
taken_formed rs roll =
    let t : Tables = tables_from blank rs in
    let all : AllByRecursion InForm (records_of t) = subst (AllByRecursion InForm) (sym (taken_saved rs roll)) roll.forms in
    let us = every_slot user_record (slots group_record 0 t.groups ++ slots object_record 0 t.objects) 0 t.users all in
    let gs = every_slot group_record (slots object_record 0 t.objects) 0 t.groups us.1 in
    let os = every_slot object_record [] 0 t.objects (subst (AllByRecursion InForm) (sym (append-nil (slots object_record 0 t.objects))) gs.1) in
    let m = made blank rs in
    record {
      sized = record {
        users = ap (λ (x : Tables). length x.users) m ∙ length_puts (replicate 16 None) (users_in rs);
        groups = ap (λ (x : Tables). length x.groups) m ∙ length_puts (replicate 16 None) (groups_in rs);
        subjects = ap (λ (x : Tables). length x.subjects) m;
        objects = ap (λ (x : Tables). length x.objects) m ∙ length_puts (replicate 64 None) (objects_in rs);
      };
      users = to_zero user_record t.users us.0;
      groups = to_zero group_record t.groups gs.0;
      objects = to_zero object_record t.objects os.0;
    }

-- a roll leaves no subject
pub taken_alone : (rs : List Record) → (tables_from blank rs).subjects ≡ replicate 32 None
taken_alone rs = ap (λ (x : Tables). x.subjects) (made blank rs)
