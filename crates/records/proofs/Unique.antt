-- A record in form is known by its bytes.
use Rattle.std.proofs.Common.{◌≡◌, ℕ, ◌+◌, ◌*◌, ◌^◌, ◌<◌, Bool, true, false, cond, not, eqb, List, [], ◌∷◌, ◌++◌, length, take, sym, refl, ap, ◌∙◌, append_assoc, arith}
use lib.Count.{ones}
use Rattle.std.proofs.lemmas.List.{take_at, append_cancel_left}
use Rattle.std.proofs.lemmas.Bool.{eqb-true}
use Rattle.records.specs.declared.forms.UserRecord.{UserRecord}
use Rattle.records.specs.declared.forms.GroupRecord.{GroupRecord}
use Rattle.records.specs.declared.forms.ObjectRecord.{ObjectRecord}
use Rattle.records.specs.declared.forms.Record.TheVariants as record_of
use Rattle.byte_cursor.specs.Bytes.{le}
use Rattle.records.specs.Rights.{marks_number, bytes_of, RightsForm, rights_body}
use Rattle.records.specs.Records.{field, users, groups, objects, Unique}
use Rattle.records.proofs.Fields.{unique, absent, le_unique}
use Rattle.records.proofs.Masks.{ones_marks, marks_fit}
use Rattle.records.proofs.Users as of_users
use Rattle.records.proofs.Objects as of_objects

turn : (e : Bool) (xs : List ℕ) → cond e [] xs ≡ cond (not e) xs []
turn true xs = refl
turn false xs = refl

field_unique : (n : ℕ) (t : Bool) (v w : ℕ) (r s : List ℕ) → t ≡ not (eqb v 0) → t ≡ not (eqb w 0) → v < 256 ^ n → w < 256 ^ n → field n v ++ r ≡ field n w ++ s → (v ≡ w) × (r ≡ s)
field_unique n t v w r s p q hv hw e =
    unique n t v w r s hv hw (absent t v p) (absent t w q)
    (ap (λ z. cond z (le n v) [] ++ r) p ∙ ap (λ l. l ++ r) (sym (turn (eqb v 0) (le n v))) ∙ e ∙ ap (λ l. l ++ s) (turn (eqb w 0) (le n w)) ∙ ap (λ z. cond z (le n w) [] ++ s) (sym q))

-- two lists of one length in front of the same list
front : (x y r s : List ℕ) → length x ≡ length y → x ++ r ≡ y ++ s → (x ≡ y) × (r ≡ s)
front x y r s l e =
    let p : x ≡ y = sym (take_at x r (length x) refl) ∙ ap (take (length x)) e ∙ take_at y s (length x) (sym l) in
    (p, append_cancel_left y r s (ap (λ z. z ++ r) (sym p) ∙ e))

one_right : (z t : Bool) (x y M N : ℕ) (X Y : List ℕ) → cond z 0 1 + 2 * M ≡ cond t 0 1 + 2 * N → cond z X (x ∷ X) ≡ cond t Y (y ∷ Y) → (z ≡ true → x ≡ 0) → (t ≡ true → y ≡ 0) → (x ≡ y) × (M ≡ N) × (X ≡ Y)
one_right true true x y M N X Y e f p q = (p refl ∙ sym (q refl), omega arith, f)
one_right true false x y M N X Y e f p q = absurd (omega arith)
one_right false true x y M N X Y e f p q = absurd (omega arith)
one_right false false x y M N X Y e f p q = (cc, omega arith, cc)

rights_unique : (x y : List ℕ) → length x ≡ length y → marks_number x ≡ marks_number y → bytes_of x ≡ bytes_of y → x ≡ y
rights_unique [] [] l e f = refl
rights_unique [] (b ∷ y) l e f = absurd (omega arith)
rights_unique (a ∷ x) [] l e f = absurd (omega arith)
rights_unique (a ∷ x) (b ∷ y) l e f =
    let o = one_right (eqb a 0) (eqb b 0) a b (marks_number x) (marks_number y) (bytes_of x) (bytes_of y) e f (eqb-true a 0) (eqb-true b 0) in
    (λ i. o.0 i ∷ rights_unique x y (omega arith) o.1 o.2 i)

none_front : (z : Bool) (a M : ℕ) (X : List ℕ) → cond z 0 1 + 2 * M ≡ 0 → (M ≡ 0 → X ≡ []) → cond z X (a ∷ X) ≡ []
none_front true a M X e f = f (omega arith)
none_front false a M X e f = absurd (omega arith)

not_same : (a b : Bool) → not a ≡ not b → a ≡ b
not_same true true e = refl
not_same true false e = sym e
not_same false true e = sym e
not_same false false e = refl

group_bit : (z : Bool) → eqb (cond z 0 1) 0 ≡ z
group_bit true = refl
group_bit false = refl

none_from_zero : (x : List ℕ) → marks_number x ≡ 0 → bytes_of x ≡ []
none_from_zero [] e = refl
none_from_zero (a ∷ x) e = none_front (eqb a 0) a (marks_number x) (bytes_of x) e (none_from_zero x)

bodies : (z : Bool) (v w : ℕ) (X Y r s : List ℕ) → v < 65536 → w < 65536 → (v ≡ w → length X ≡ length Y) → (z ≡ true → (v ≡ w) × (X ≡ Y)) → cond z [] (le 2 v ++ X) ++ r ≡ cond z [] (le 2 w ++ Y) ++ s → (v ≡ w) × (X ≡ Y) × (r ≡ s)
bodies true v w X Y r s hv hw l o e = ((o refl).0, (o refl).1, e)
bodies false v w X Y r s hv hw l o e =
    let u = le_unique 2 v w (X ++ r) (Y ++ s) hv hw (sym (append_assoc (le 2 v) X r) ∙ e ∙ append_assoc (le 2 w) Y s) in
    let f = front X Y r s (l u.0) u.1 in
    (u.0, f.0, f.1)

body_unique : (t : Bool) (x y r s : List ℕ) → RightsForm x → RightsForm y → t ≡ not (eqb (marks_number x) 0) → t ≡ not (eqb (marks_number y) 0) → rights_body x ++ r ≡ rights_body y ++ s → (x ≡ y) × (r ≡ s)
body_unique t x y r s fx fy p q e =
    let z : eqb (marks_number y) 0 ≡ eqb (marks_number x) 0 = not_same _ _ (sym q ∙ p) in
    let e' : rights_body x ++ r ≡ cond (eqb (marks_number x) 0) [] (le 2 (marks_number y) ++ bytes_of y) ++ s = e ∙ ap (λ t. cond t [] (le 2 (marks_number y) ++ bytes_of y) ++ s) z in
    let b = bodies (eqb (marks_number x) 0) (marks_number x) (marks_number y) (bytes_of x) (bytes_of y) r s (marks_fit x fx) (marks_fit y fy)
    (λ v. sym (ones_marks x) ∙ ap ones v ∙ ones_marks y)
    (λ k. let a = eqb-true (marks_number x) 0 k in let b = eqb-true (marks_number y) 0 (z ∙ k) in (a ∙ sym b, none_from_zero x a ∙ sym (none_from_zero y b)))
    e' in
    (rights_unique x y (fx.users ∙ sym fy.users) b.0 b.1, b.2)

user_unique : (x y : UserRecord) (r s : List ℕ) → users.Formed x → users.Formed y → users.map x ≡ users.map y → x.number ≡ y.number → users.body x ++ r ≡ users.body y ++ s → (x ≡ y) × (r ≡ s)
user_unique x y r s hx hy m n e =
    let a = of_users.flags (users.map y) x m in
    let b = of_users.flags (users.map y) y refl in
    let e' : field 2 x.groups ++ (field 8 x.allow ++ (field 8 x.floor ++ (field 8 x.top ++ r))) ≡ field 2 y.groups ++ (field 8 y.allow ++ (field 8 y.floor ++ (field 8 y.top ++ s))) = simp append_assoc at e in
    let s₁ = field_unique 2 _ x.groups y.groups _ _ a.groups b.groups hx.0 hy.0 e' in
    let s₂ = field_unique 8 _ x.allow y.allow _ _ a.allow b.allow hx.1 hy.1 s₁.1 in
    let s₃ = field_unique 8 _ x.floor y.floor _ _ a.floor b.floor hx.2 hy.2 s₂.1 in
    let s₄ = field_unique 8 _ x.top y.top r s a.top b.top hx.3 hy.3 s₃.1 in
    let ad : x.admin ≡ y.admin = sym a.admin ∙ b.admin in
    ((λ i. record { number = n i; admin = ad i; groups = s₁.0 i; allow = s₂.0 i; floor = s₃.0 i; top = s₄.0 i }), s₄.1)

pub group_flag : (g : GroupRecord) (bits : ℕ) → groups.map g ≡ bits → eqb bits 0 ≡ eqb g.role 0
group_flag g bits m = ap (λ b. eqb b 0) (sym m) ∙ group_bit (eqb g.role 0)

group_unique : (x y : GroupRecord) (r s : List ℕ) → groups.Formed x → groups.Formed y → groups.map x ≡ groups.map y → x.number ≡ y.number → groups.body x ++ r ≡ groups.body y ++ s → (x ≡ y) × (r ≡ s)
group_unique x y r s hx hy m n e =
    let u = field_unique 1 _ x.role y.role r s (ap not (group_flag x _ m)) (ap not (group_flag y _ refl)) (omega arith) (omega arith) e in
    ((λ i. record { number = n i; role = u.0 i }), u.1)

object_unique : (x y : ObjectRecord) (r s : List ℕ) → objects.Formed x → objects.Formed y → objects.map x ≡ objects.map y → x.number ≡ y.number → objects.body x ++ r ≡ objects.body y ++ s → (x ≡ y) × (r ≡ s)
object_unique x y r s hx hy m n e =
    let a = of_objects.flags (objects.map y) x m in
    let b = of_objects.flags (objects.map y) y refl in
    let e' : field 1 x.parent ++ (field 1 x.kind ++ (field 1 x.owner ++ (field 8 x.label ++ (field 2 x.groups ++ (rights_body x.rights ++ r))))) ≡ field 1 y.parent ++ (field 1 y.kind ++ (field 1 y.owner ++ (field 8 y.label ++ (field 2 y.groups ++ (rights_body y.rights ++ s))))) = simp append_assoc at e in
    let s₁ = field_unique 1 _ x.parent y.parent _ _ a.parent b.parent hx.parent hy.parent e' in
    let kx : x.kind < 256 = omega (arith, hx.kind) in
    let ky : y.kind < 256 = omega (arith, hy.kind) in
    let s₂ = field_unique 1 _ x.kind y.kind _ _ a.kind b.kind kx ky s₁.1 in
    let s₃ = field_unique 1 _ x.owner y.owner _ _ a.owner b.owner hx.owner hy.owner s₂.1 in
    let s₄ = field_unique 8 _ x.label y.label _ _ a.label b.label hx.label hy.label s₃.1 in
    let s₅ = field_unique 2 _ x.groups y.groups _ _ a.groups b.groups hx.groups hy.groups s₄.1 in
    let s₆ = body_unique _ x.rights y.rights r s hx.rights hy.rights a.rights b.rights s₅.1 in
    let mi : x.mixed ≡ y.mixed = sym a.mixed ∙ b.mixed in
    ((λ i. record { number = n i; parent = s₁.0 i; kind = s₂.0 i; owner = s₃.0 i; label = s₄.0 i; mixed = mi i; groups = s₅.0 i; rights = s₆.0 i }), s₆.1)

pub unique_record : Unique
unique_record (record_of.User x) (record_of.User y) r s hx hy e = let u = user_unique x y r s hx.0 hy.0 (cc) (cc) (cc) in (ap record_of.User u.0, u.1)
unique_record (record_of.User x) (record_of.Group y) r s hx hy e = let z : ◌≡◌ {A = ℕ} 1 2 = cc in absurd (omega arith)
unique_record (record_of.User x) (record_of.Object y) r s hx hy e = let z : ◌≡◌ {A = ℕ} 1 3 = cc in absurd (omega arith)
unique_record (record_of.Group x) (record_of.User y) r s hx hy e = let z : ◌≡◌ {A = ℕ} 2 1 = cc in absurd (omega arith)
unique_record (record_of.Group x) (record_of.Group y) r s hx hy e = let u = group_unique x y r s hx.0 hy.0 (cc) (cc) (cc) in (ap record_of.Group u.0, u.1)
unique_record (record_of.Group x) (record_of.Object y) r s hx hy e = let z : ◌≡◌ {A = ℕ} 2 3 = cc in absurd (omega arith)
unique_record (record_of.Object x) (record_of.User y) r s hx hy e = let z : ◌≡◌ {A = ℕ} 3 1 = cc in absurd (omega arith)
unique_record (record_of.Object x) (record_of.Group y) r s hx hy e = let z : ◌≡◌ {A = ℕ} 3 2 = cc in absurd (omega arith)
unique_record (record_of.Object x) (record_of.Object y) r s hx hy e = let u = object_unique x y r s hx.0 hy.0 (cc) (cc) (cc) in (ap record_of.Object u.0, u.1)
