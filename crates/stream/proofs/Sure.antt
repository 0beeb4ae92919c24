-- Every byte string streams as one list of calls, with one end. Assumes nothing.
use Rattle.std.proofs.Common.{◌≡◌, ℕ, ◌⊎◌, List, [], ◌∷◌, ◌++◌, length, Some, None, Ok, Err, Result, sym, refl, ap, ◌∙◌, subst, inl, inr, ⊎_elim, append_assoc, append-nil, arith, length-append, MatchResult}
use Rattle.std.specs.List.{flat_map, AllByRecursion}
use Rattle.byte_cursor.specs.declared.cursors.Cursor.{Cursor}
use Rattle.byte_cursor.specs.Bytes.{left, Took}
use Rattle.calls.specs.declared.types.Call.{Call}
use Rattle.stream.specs.declared.faults.CallFault.{CallFault}
use Rattle.stream.specs.declared.faults.CallFault.TheVariants.{Bytes, Form}
use Rattle.stream.specs.Forms.{encode, InForm}
use Rattle.stream.specs.Faults.{Cut, Faulty}
use Rattle.stream.specs.Streams.{Streams, OneReading}
use Rattle.stream.proofs.Heads.{whole, unique_call}

-- a call in form in front rules out a fault
no_fault : (p : ℕ) (bs : List ℕ) (f : CallFault) (x : Call) (more : List ℕ) → InForm x → bs ≡ encode x ++ more → Faulty p bs f → ⊥
no_fault p bs (Bytes e) x more h s w = whole x more h (subst Cut s w.1)
no_fault p bs (Form q) x more h s w = w.2 x more h s

-- a call that was written is read back
pub read_back : (a b : Cursor) (r : Result Call CallFault) → MatchResult r (λ y. InForm y × Took a b (encode y)) (Faulty a.place (left a)) → (x : Call) (rest : List ℕ) → InForm x → left a ≡ encode x ++ rest → r ≡ Ok x
read_back a b (Ok y) h x rest f e = ap (λ (z : Call). Ok z) (unique_call y x (left b) rest h.0 f (sym h.1.split ∙ e)).0
read_back a b (Err w) h x rest f e = absurd (no_fault a.place (left a) w x rest f e h)

same_fault : (p : ℕ) (bs : List ℕ) (f g : CallFault) → Faulty p bs f → Faulty p bs g → f ≡ g
same_fault p bs (Bytes e) (Bytes d) v w = (λ i. Bytes (record { first = (v.0 ∙ sym w.0) i }))
same_fault p bs (Bytes e) (Form q) v w = absurd (w.1 v.1)
same_fault p bs (Form q) (Bytes e) v w = absurd (v.1 w.1)
same_fault p bs (Form q) (Form n) v w = ap Form (v.0 ∙ sym w.0)

-- a call in form stands in front
abbrev Longer : List ℕ → Type 0
Longer r = (x : Call) × (more : List ℕ) × InForm x × (r ≡ encode x ++ more)

prefixes : (xs ys : List Call) (r s : List ℕ) → AllByRecursion InForm xs → AllByRecursion InForm ys → flat_map encode xs ++ r ≡ flat_map encode ys ++ s → ((xs ≡ ys) × (r ≡ s)) ⊎ (Longer r ⊎ Longer s)
prefixes [] [] r s f g e = inl (refl, e)
prefixes [] (y ∷ ys) r s f g e = inr (inl (y, flat_map encode ys ++ s, g.0, e ∙ append_assoc (encode y) (flat_map encode ys) s))
prefixes (x ∷ xs) [] r s f g e = inr (inr (x, flat_map encode xs ++ r, f.0, sym e ∙ append_assoc (encode x) (flat_map encode xs) r))
prefixes (x ∷ xs) (y ∷ ys) r s f g e =
    let u = unique_call x y (flat_map encode xs ++ r) (flat_map encode ys ++ s) f.0 g.0 (sym (append_assoc (encode x) (flat_map encode xs) r) ∙ e ∙ append_assoc (encode y) (flat_map encode ys) s) in
    ⊎_elim (λ q. inl ((λ i. u.0 i ∷ q.0 i), q.1)) (λ q. inr q) (prefixes xs ys r s f.1 g.1 u.1)

nothing_longer : Longer [] → ⊥
nothing_longer w = omega (arith, ap length w.3 ∙ length-append (encode w.0) w.1)

done_fault : (bytes : List ℕ) (xs ys : List Call) (f : CallFault) → Streams bytes xs None → Streams bytes ys (Some f) → ⊥
done_fault bytes xs ys f a b =
    ⊎_elim (λ q. omega (arith, ap length q.1, b.3))
    (λ q. ⊎_elim nothing_longer (λ w. no_fault _ b.0 f w.0 w.1 w.2 w.3 b.4) q)
    (prefixes xs ys [] b.0 a.0 b.1 (append-nil _ ∙ sym a.1 ∙ b.2))

pub one_reading : OneReading
one_reading bytes xs ys None None a b =
    ⊎_elim (λ q. (q.0, refl))
    (λ q. ⊎_elim (λ w. absurd (nothing_longer w)) (λ w. absurd (nothing_longer w)) q)
    (prefixes xs ys [] [] a.0 b.0 (append-nil _ ∙ sym a.1 ∙ b.1 ∙ sym (append-nil _)))
one_reading bytes xs ys None (Some f) a b = absurd (done_fault bytes xs ys f a b)
one_reading bytes xs ys (Some f) None a b = absurd (done_fault bytes ys xs f b a)
one_reading bytes xs ys (Some f) (Some g) a b =
    ⊎_elim
    (λ q. (q.0, ap (λ h. Some h) (same_fault (length (flat_map encode ys)) b.0 f g (subst (λ l. Faulty (length (flat_map encode l)) b.0 f) q.0 (subst (λ l. Faulty (length (flat_map encode xs)) l f) q.1 a.4)) b.4)))
    (λ q. ⊎_elim (λ w. absurd (no_fault _ a.0 f w.0 w.1 w.2 w.3 a.4)) (λ w. absurd (no_fault _ b.0 g w.0 w.1 w.2 w.3 b.4)) q)
    (prefixes xs ys a.0 b.0 a.1 b.1 (sym a.2 ∙ b.2))
