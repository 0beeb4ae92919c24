-- A roll has one answer.
use Rattle.std.proofs.Common.{◌≡◌, ℕ, ◌+◌, ◌<◌, ◌≤◌, Bool, true, false, cond, not, eqb, ◌⊎◌, List, [], ◌∷◌, ◌++◌, length, drop, Ok, Err, sym, refl, ap, ◌∙◌, subst, inl, inr, ⊎_elim, append_assoc, append-nil, arith, length-append}
use Rattle.std.specs.List.{flat_map, AllByRecursion}
use Rattle.std.proofs.lemmas.List.{drop_at}
use Rattle.records.specs.declared.forms.UserRecord.{UserRecord}
use Rattle.records.specs.declared.forms.GroupRecord.{GroupRecord}
use Rattle.records.specs.declared.forms.ObjectRecord.{ObjectRecord}
use Rattle.records.specs.declared.forms.Record.{Record}
use Rattle.records.specs.declared.forms.Record.TheVariants as record_of
use Rattle.records.specs.declared.forms.RecordFault.{RecordFault}
use Rattle.records.specs.declared.forms.RecordFault.TheVariants as record_fault
use Rattle.tables.specs.declared.types.Tables.{Tables}
use Rattle.byte_cursor.specs.Bytes.{le}
use Rattle.records.specs.Rights.{rights_body, rights_size}
use Rattle.records.specs.Records.{field, has, fixed, users, groups, objects, encode, InForm, Cut, Faulty, Whole}
use Rattle.tables.specs.State.{blank}
use Rattle.roll.specs.Rolls.{rank_of, Rising, last_of, tables_from, Next, Says, OneSaying}
use Rattle.records.proofs.Fields.{length_le}
use Rattle.roll.proofs.Loads.{some_bytes}
use Rattle.records.proofs.Masks.{body_size}
use Rattle.records.proofs.Unique.{unique_record}
use Rattle.records.proofs.Users as of_users
use Rattle.records.proofs.Objects as of_objects

size_if : (n : ℕ) (e : Bool) (v : ℕ) → length (cond e [] (le n v)) ≡ cond (not e) n 0
size_if n true v = refl
size_if n false v = length_le n v

field_size : (n : ℕ) (t : Bool) (v : ℕ) → t ≡ not (eqb v 0) → length (field n v) ≡ cond t n 0
field_size n t v e = size_if n (eqb v 0) v ∙ ap (λ z. cond z n 0) (sym e)

user_whole : (u : UserRecord) (rest : List ℕ) → users.size (users.map u) (users.body u ++ rest) ≤ length (users.body u ++ rest)
user_whole u rest =
    let f = of_users.flags (users.map u) u refl in
    simp length-append (omega (arith, field_size 2 _ u.groups f.groups, field_size 8 _ u.allow f.allow, field_size 8 _ u.floor f.floor, field_size 8 _ u.top f.top))

group_case : (e : Bool) (r : ℕ) (rest : List ℕ) → cond (has (cond e 0 1) 1) 1 0 ≤ length (cond e [] (le 1 r)) + length rest
group_case true r rest = omega arith
group_case false r rest = omega arith

group_whole : (g : GroupRecord) (rest : List ℕ) → groups.size (groups.map g) (groups.body g ++ rest) ≤ length (groups.body g ++ rest)
group_whole g rest = simp length-append (group_case (eqb g.role 0) g.role rest)

object_whole : (o : ObjectRecord) (rest : List ℕ) → objects.Formed o → objects.size (objects.map o) (objects.body o ++ rest) ≤ length (objects.body o ++ rest)
object_whole o rest h =
    let f = of_objects.flags (objects.map o) o refl in
    let a = field 1 o.parent ++ (field 1 o.kind ++ (field 1 o.owner ++ (field 8 o.label ++ field 2 o.groups))) in
    let e : objects.body o ++ rest ≡ a ++ (rights_body o.rights ++ rest) = simp append_assoc in
    let l : length a ≡ fixed (objects.map o) = simp length-append (omega (arith, field_size 1 _ o.parent f.parent, field_size 1 _ o.kind f.kind, field_size 1 _ o.owner f.owner, field_size 8 _ o.label f.label, field_size 2 _ o.groups f.groups)) in
    let d : drop (fixed (objects.map o)) (objects.body o ++ rest) ≡ rights_body o.rights ++ rest = ap (drop (fixed (objects.map o))) e ∙ drop_at a (rights_body o.rights ++ rest) (fixed (objects.map o)) l in
    let s : cond (has (objects.map o) 64) (rights_size (drop (fixed (objects.map o)) (objects.body o ++ rest))) 0 ≡ length (rights_body o.rights) = (λ i. cond (f.rights i) (rights_size (d i)) 0) ∙ sym (body_size o.rights rest h.rights) in
    omega (arith, s, l, ap length e, length-append a (rights_body o.rights ++ rest), length-append (rights_body o.rights) rest)

pub whole : Whole
whole (record_of.User u) rest h c = ⊎_elim (λ lt. omega arith) (λ k. omega (arith, k.2, user_whole u rest)) c
whole (record_of.Group g) rest h c = ⊎_elim (λ lt. omega arith) (λ k. omega (arith, k.2, group_whole g rest)) c
whole (record_of.Object o) rest h c = ⊎_elim (λ lt. omega arith) (λ k. omega (arith, k.2, object_whole o rest h.0)) c

-- a record in form in front rules out a fault, unless it is out of order
no_fault : (p : ℕ) (bs : List ℕ) (f : RecordFault) (x : Record) (more : List ℕ) → InForm x → bs ≡ encode x ++ more → Faulty p bs f → ⊥
no_fault p bs (record_fault.Bytes e) x more h s w = whole x more h (subst Cut s w.1)
no_fault p bs (record_fault.Form q) x more h s w = w.2 x more h s
no_fault p bs (record_fault.Order q) x more h s w = w

no_next : (m : ℕ) (rs : List Record) (p : ℕ) (bs : List ℕ) (f : RecordFault) (x : Record) (more : List ℕ) → InForm x → bs ≡ encode x ++ more → last_of 0 rs < rank_of x → Next rs p bs f → ⊥
no_next m rs p bs (record_fault.Bytes e) x more h s lt w = no_fault p bs (record_fault.Bytes e) x more h s w
no_next m rs p bs (record_fault.Form q) x more h s lt w = no_fault p bs (record_fault.Form q) x more h s w
no_next m rs p bs (record_fault.Order q) x more h s lt w =
    let o = w.1 in
    let e = (unique_record x o.0 more o.1 h o.2 (sym s ∙ o.3)).0 in
    omega (arith, o.4, lt, ap rank_of e)

same_next : (rs : List Record) (p : ℕ) (bs : List ℕ) (f g : RecordFault) → Next rs p bs f → Next rs p bs g → f ≡ g
same_next rs p bs (record_fault.Bytes e) (record_fault.Bytes d) v w = (λ i. record_fault.Bytes (record { first = (v.0 ∙ sym w.0) i }))
same_next rs p bs (record_fault.Bytes e) (record_fault.Form q) v w = absurd (w.1 v.1)
same_next rs p bs (record_fault.Bytes e) (record_fault.Order q) v w = let o = w.1 in absurd (no_fault p bs (record_fault.Bytes e) o.0 o.1 o.2 o.3 v)
same_next rs p bs (record_fault.Form q) (record_fault.Bytes e) v w = absurd (v.1 w.1)
same_next rs p bs (record_fault.Form q) (record_fault.Form n) v w = ap record_fault.Form (v.0 ∙ sym w.0)
same_next rs p bs (record_fault.Form q) (record_fault.Order n) v w = let o = w.1 in absurd (no_fault p bs (record_fault.Form q) o.0 o.1 o.2 o.3 v)
same_next rs p bs (record_fault.Order q) (record_fault.Bytes e) v w = let o = v.1 in absurd (no_fault p bs (record_fault.Bytes e) o.0 o.1 o.2 o.3 w)
same_next rs p bs (record_fault.Order q) (record_fault.Form n) v w = let o = v.1 in absurd (no_fault p bs (record_fault.Form n) o.0 o.1 o.2 o.3 w)
same_next rs p bs (record_fault.Order q) (record_fault.Order n) v w = ap record_fault.Order (v.0 ∙ sym w.0)

-- behind rs stands one more good record
abbrev Longer : ℕ → List Record → List ℕ → Type 0
Longer m rs r = (x : Record) × (more : List ℕ) × InForm x × (r ≡ encode x ++ more) × (last_of m rs < rank_of x)

prefixes : (m : ℕ) (rs ss : List Record) (r s : List ℕ) → AllByRecursion InForm rs → AllByRecursion InForm ss → Rising m rs → Rising m ss → flat_map encode rs ++ r ≡ flat_map encode ss ++ s → ((rs ≡ ss) × (r ≡ s)) ⊎ (Longer m rs r ⊎ Longer m ss s)
prefixes m [] [] r s fr fs hr hs e = inl (refl, e)
prefixes m [] (y ∷ ss) r s fr fs hr hs e = inr (inl (y, flat_map encode ss ++ s, fs.0, e ∙ append_assoc (encode y) (flat_map encode ss) s, hs.0))
prefixes m (x ∷ rs) [] r s fr fs hr hs e = inr (inr (x, flat_map encode rs ++ r, fr.0, sym e ∙ append_assoc (encode x) (flat_map encode rs) r, hr.0))
prefixes m (x ∷ rs) (y ∷ ss) r s fr fs hr hs e =
    let u = unique_record x y (flat_map encode rs ++ r) (flat_map encode ss ++ s) fr.0 fs.0 (sym (append_assoc (encode x) (flat_map encode rs) r) ∙ e ∙ append_assoc (encode y) (flat_map encode ss) s) in
    let hs' : Rising (rank_of x) ss = subst (λ z. Rising (rank_of z) ss) (sym u.0) hs.1 in
    ⊎_elim (λ q. inl ((λ i. u.0 i ∷ q.0 i), q.1))
    (λ q. inr (⊎_elim (λ a. inl a) (λ b. inr (subst (λ z. Longer (rank_of z) ss s) u.0 b)) q))
    (prefixes (rank_of x) rs ss r s fr.1 fs.1 hr.1 hs' u.1)

nothing_longer : (rs : List Record) → Longer 0 rs [] → ⊥
nothing_longer rs w = omega (arith, ap length w.3 ∙ length-append (encode w.0) w.1, some_bytes w.0)

ok_err : (bytes : List ℕ) (t : Tables) (f : RecordFault) → Says bytes (Ok t) → Says bytes (Err f) → ⊥
ok_err bytes t f a b =
    ⊎_elim (λ q. omega (arith, ap length q.1, b.4))
    (λ q. ⊎_elim (λ w. nothing_longer a.0 w) (λ w. no_next 0 b.0 _ b.1 f w.0 w.1 w.2 w.3 w.4 b.5) q)
    (prefixes 0 a.0 b.0 [] b.1 a.1.forms b.2.forms a.1.rises b.2.rises (append-nil _ ∙ sym a.2 ∙ b.3))

pub sure : OneSaying
sure bytes (Ok t) (Ok u) a b =
    ⊎_elim (λ q. ap Ok (a.3 ∙ ap (tables_from blank) q.0 ∙ sym b.3))
    (λ q. ⊎_elim (λ w. absurd (nothing_longer a.0 w)) (λ w. absurd (nothing_longer b.0 w)) q)
    (prefixes 0 a.0 b.0 [] [] a.1.forms b.1.forms a.1.rises b.1.rises (append-nil _ ∙ sym a.2 ∙ b.2 ∙ sym (append-nil _)))
sure bytes (Ok t) (Err f) a b = absurd (ok_err bytes t f a b)
sure bytes (Err f) (Ok t) a b = absurd (ok_err bytes t f b a)
sure bytes (Err f) (Err g) a b =
    ⊎_elim (λ q. ap (λ h. Err h) (same_next b.0 (length (flat_map encode b.0)) b.1 f g
    (subst (λ rs. Next rs (length (flat_map encode rs)) b.1 f) q.0 (subst (λ l. Next a.0 (length (flat_map encode a.0)) l f) q.1 a.5)) b.5))
    (λ q. ⊎_elim (λ w. absurd (no_next 0 a.0 _ a.1 f w.0 w.1 w.2 w.3 w.4 a.5)) (λ w. absurd (no_next 0 b.0 _ b.1 g w.0 w.1 w.2 w.3 w.4 b.5)) q)
    (prefixes 0 a.0 b.0 a.1 b.1 a.2.forms b.2.forms a.2.rises b.2.rises (sym a.3 ∙ b.3))
