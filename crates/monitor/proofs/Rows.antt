-- The marked examples, by one test that antt computes over the whole list. Assumes nothing.
use Rattle.std.proofs.Common.{◌≡◌, ℕ, zero, suc, ◌^◌, ◌<◌, Bool, true, false, ◌&&◌, eqb, ltb, leb, List, [], ◌∷◌, ◌++◌, length, get_or, drop, replicate, is_some, None, Err, Option, refl, inr, arith}
use Rattle.std.specs.List.{flat_map, AllByRecursion}
use Rattle.std.specs.Str.{bytes_eq}
use Rattle.std.proofs.lemmas.Slice.Eq.{bytes_eq-Decides}
use Rattle.std.proofs.lemmas.Bool.{and_parts, ltb-true, leb-true, eqb-true, false≢true}
use Rattle.labels.specs.House.{house}
use Rattle.labels.specs.Old.{old}
use Rattle.labels.proofs.Rows.{every, all_by_test, right, right_stands}
use Rattle.tables.specs.State.{blank}
use Rattle.tables.specs.declared.types.Subject.{Subject}
use Rattle.tables.specs.declared.types.User.{User}
use Rattle.tables.specs.declared.types.Object.{Object}
use Rattle.sound.specs.Sound.{FirstFailing, Holding, number}
use Rattle.sound.specs.declared.clauses.Clause.{Clause}
use Rattle.sound.specs.declared.clauses.Clause.TheVariants.{Groups, Labels, Tree, Owners, Lists, Administrator, Nesting, Mixed}
use Rattle.records.specs.declared.forms.Record.{Record}
use Rattle.records.specs.declared.forms.Record.TheVariants as record_of
use Rattle.records.specs.declared.forms.RecordFault.TheVariants as of_record
use Rattle.records.specs.Records.{encode, InForm, table_of, maps_of, tail_size, Cut}
use Rattle.roll.specs.Rolls.{rank_of, Rising, Says}
use Rattle.monitor.specs.declared.faults.RollFault.TheVariants as of_roll
use Rattle.monitor.specs.Loads.{Tells}
use Rattle.monitor.specs.Marked.{Example, labelled, refused, Stands, marked, MarkedStand}

-- a record is in form
abbrev all_below : ℕ → List ℕ → Bool
all_below k [] = true
all_below k (b ∷ bs) = ltb b k && all_below k bs

below_every : (k : ℕ) (bs : List ℕ) → all_below k bs ≡ true → AllByRecursion (λ b. b < k) bs
below_every k [] e = tt
below_every k (b ∷ bs) e = let p = and_parts (ltb b k) (all_below k bs) e in (ltb-true b k p.0, below_every k bs p.1)

abbrev formed : Record → Bool
formed (record_of.User u) = (ltb u.groups (2 ^ 16) && (ltb u.allow (2 ^ 64) && (ltb u.floor (2 ^ 64) && ltb u.top (2 ^ 64)))) && ltb u.number 16
formed (record_of.Group g) = ltb g.role 128 && ltb g.number 16
formed (record_of.Object o) =
    (ltb o.parent 256 && (leb o.kind 2 && (ltb o.owner 256 && (ltb o.label (2 ^ 64) && (ltb o.groups (2 ^ 16) && (eqb (length o.rights) 16 && all_below 128 o.rights))))))
    && ltb o.number 64

formed_shown : (x : Record) → formed x ≡ true → InForm x
formed_shown (record_of.User u) e =
    let p = and_parts (ltb u.groups (2 ^ 16) && (ltb u.allow (2 ^ 64) && (ltb u.floor (2 ^ 64) && ltb u.top (2 ^ 64)))) (ltb u.number 16) e in
    let a = and_parts (ltb u.groups (2 ^ 16)) _ p.0 in
    let b = and_parts (ltb u.allow (2 ^ 64)) _ a.1 in
    let c = and_parts (ltb u.floor (2 ^ 64)) (ltb u.top (2 ^ 64)) b.1 in
    ((ltb-true _ _ a.0, ltb-true _ _ b.0, ltb-true _ _ c.0, ltb-true _ _ c.1), ltb-true _ _ p.1)
formed_shown (record_of.Group g) e = let p = and_parts (ltb g.role 128) (ltb g.number 16) e in (ltb-true _ _ p.0, ltb-true _ _ p.1)
formed_shown (record_of.Object o) e =
    let p = and_parts (ltb o.parent 256 && (leb o.kind 2 && (ltb o.owner 256 && (ltb o.label (2 ^ 64) && (ltb o.groups (2 ^ 16) && (eqb (length o.rights) 16 && all_below 128 o.rights)))))) (ltb o.number 64) e in
    let a = and_parts (ltb o.parent 256) _ p.0 in
    let b = and_parts (leb o.kind 2) _ a.1 in
    let c = and_parts (ltb o.owner 256) _ b.1 in
    let d = and_parts (ltb o.label (2 ^ 64)) _ c.1 in
    let f = and_parts (ltb o.groups (2 ^ 16)) _ d.1 in
    let h = and_parts (eqb (length o.rights) 16) (all_below 128 o.rights) f.1 in (
      record {
        parent = ltb-true _ _ a.0;
        kind = leb-true _ _ b.0;
        owner = ltb-true _ _ c.0;
        label = ltb-true _ _ d.0;
        groups = ltb-true _ _ f.0;
        rights = record { users = eqb-true _ _ h.0; clear = below_every 128 o.rights h.1 };
      },
      ltb-true _ _ p.1,
    )

forms_shown : (rs : List Record) → every formed rs ≡ true → AllByRecursion InForm rs
forms_shown [] e = tt
forms_shown (x ∷ rs) e = let p = and_parts (formed x) (every formed rs) e in (formed_shown x p.0, forms_shown rs p.1)

-- records ascend
abbrev rising : ℕ → List Record → Bool
rising m [] = true
rising m (x ∷ rs) = ltb m (rank_of x) && rising (rank_of x) rs

rising_shown : (m : ℕ) (rs : List Record) → rising m rs ≡ true → Rising m rs
rising_shown m [] e = tt
rising_shown m (x ∷ rs) e = let p = and_parts (ltb m (rank_of x)) (rising (rank_of x) rs) e in (ltb-true m (rank_of x) p.0, rising_shown (rank_of x) rs p.1)

-- the bytes end inside the fields of a record with a known head
abbrev cut : List ℕ → Bool
cut bs = leb 3 (length bs) && ((ltb (get_or bs 2 0) (table_of (get_or bs 1 0)) && ltb (get_or bs 0 0) (maps_of (get_or bs 1 0))) && ltb (length (drop 3 bs)) (tail_size bs))

cut_shown : (bs : List ℕ) → cut bs ≡ true → Cut bs
cut_shown bs e =
    let p = and_parts (leb 3 (length bs)) _ e in
    let q = and_parts (ltb (get_or bs 2 0) (table_of (get_or bs 1 0)) && ltb (get_or bs 0 0) (maps_of (get_or bs 1 0))) (ltb (length (drop 3 bs)) (tail_size bs)) p.1 in
    let k = and_parts (ltb (get_or bs 2 0) (table_of (get_or bs 1 0))) (ltb (get_or bs 0 0) (maps_of (get_or bs 1 0))) q.0 in
    inr (leb-true _ _ p.0, (ltb-true _ _ k.0, ltb-true _ _ k.1), ltb-true _ _ q.1)

-- behind these records the bytes are cut short, in the record that begins at the place
abbrev short : List ℕ → List Record → ℕ → Bool
short bytes rs place =
    bytes_eq bytes (flat_map encode rs ++ drop place bytes)
    && (every formed rs && (rising 0 rs && (cut (drop place bytes) && eqb place (length (flat_map encode rs)))))

long_enough : (bs : List ℕ) → Cut bs → cut bs ≡ true → 0 < length bs
long_enough bs c e = let p = leb-true 3 (length bs) (and_parts (leb 3 (length bs)) _ e).0 in omega arith

short_shown : (bytes : List ℕ) (rs : List Record) (place : ℕ) → short bytes rs place ≡ true → Says bytes (Err (of_record.Bytes (record { first = place })))
short_shown bytes rs place e =
    let rest = drop place bytes in
    let p = and_parts (bytes_eq bytes (flat_map encode rs ++ rest)) _ e in
    let q = and_parts (every formed rs) _ p.1 in
    let r = and_parts (rising 0 rs) _ q.1 in
    let s = and_parts (cut rest) (eqb place (length (flat_map encode rs))) r.1 in
    let c = cut_shown rest s.0 in (
      rs,
      rest,
      record { forms = forms_shown rs q.0; rises = rising_shown 0 rs r.0 },
      (bytes_eq-Decides bytes (flat_map encode rs ++ rest)).0 p.0,
      long_enough rest c s.0,
      (eqb-true place (length (flat_map encode rs)) s.1, c),
    )

-- blank tables have no root
no_slot : (A : Type 0) (n s : ℕ) → is_some (get_or {A = Option A} (replicate n None) s None) ≡ true → ⊥
no_slot A zero s h = false≢true h
no_slot A (suc n) zero h = false≢true h
no_slot A (suc n) (suc s) h = no_slot A n s h

blank_before : (d : Clause) → number d < 3 → Holding d house blank
blank_before Groups h = record { users = λ u k. absurd (no_slot User 16 u k); objects = λ o k. absurd (no_slot Object 64 o k) }
blank_before Labels h = record { users = λ u k. absurd (no_slot User 16 u k); subjects = λ s k. absurd (no_slot Subject 32 s k); objects = λ o k. absurd (no_slot Object 64 o k) }
blank_before Tree h = absurd (omega arith)
blank_before Owners h = absurd (omega arith)
blank_before Lists h = absurd (omega arith)
blank_before Administrator h = absurd (omega arith)
blank_before Nesting h = absurd (omega arith)
blank_before Mixed h = absurd (omega arith)

blank_fails : FirstFailing house blank Tree
blank_fails = record { before = blank_before; fails = λ r. no_slot Object 64 0 r.root.0 }

abbrev rootless : List ℕ → Clause → ℕ → Bool
rootless [] Groups n = false
rootless [] Labels n = false
rootless [] Tree n = eqb n 0
rootless [] Owners n = false
rootless [] Lists n = false
rootless [] Administrator n = false
rootless [] Nesting n = false
rootless [] Mixed n = false
rootless (b ∷ bytes) c n = false

rootless_shown : (bytes : List ℕ) (c : Clause) (n : ℕ) → rootless bytes c n ≡ true → Tells house bytes (Err (of_roll.Unsound c n))
rootless_shown [] Groups n e = absurd (false≢true e)
rootless_shown [] Labels n e = absurd (false≢true e)
rootless_shown [] Tree n e = (eqb-true n 0 e, (blank, ([], record { forms = tt; rises = tt }, refl, refl), blank_fails))
rootless_shown [] Owners n e = absurd (false≢true e)
rootless_shown [] Lists n e = absurd (false≢true e)
rootless_shown [] Administrator n e = absurd (false≢true e)
rootless_shown [] Nesting n e = absurd (false≢true e)
rootless_shown [] Mixed n e = absurd (false≢true e)
rootless_shown (b ∷ bytes) c n e = absurd (false≢true e)

-- the two records in front of the sample's last one
abbrev front : List Record
front =
    record_of.User (record { number = 0; admin = true; groups = 0; allow = 0; floor = 8589934592; top = 2 })
    ∷ record_of.Object (record { number = 0; parent = 0; kind = 0; owner = 0; label = 8589934592; mixed = true; groups = 0; rights = replicate 16 0 })
    ∷ []

abbrev test : Example → Bool
test (labelled r) = right r
test (refused bytes (of_roll.Record (of_record.Bytes e))) = short bytes front e.first
test (refused bytes (of_roll.Record (of_record.Form p))) = false
test (refused bytes (of_roll.Record (of_record.Order p))) = false
test (refused bytes (of_roll.Unsound c n)) = rootless bytes c n

shown : (x : Example) → test x ≡ true → Stands x
shown (labelled r) e = right_stands r e
shown (refused bytes (of_roll.Record (of_record.Bytes f))) e = short_shown bytes front f.first e
shown (refused bytes (of_roll.Record (of_record.Form p))) e = absurd (false≢true e)
shown (refused bytes (of_roll.Record (of_record.Order p))) e = absurd (false≢true e)
shown (refused bytes (of_roll.Unsound c n)) e = rootless_shown bytes c n e

pub marked_stand : MarkedStand
unfolding house old
marked_stand = all_by_test test Stands shown marked refl
