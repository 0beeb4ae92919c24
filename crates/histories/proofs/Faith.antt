-- The words of the promises say no less than they should. Assumes nothing.
use Rattle.std.proofs.Common.{◌≡◌, ℕ, zero, suc, ◌<◌, ◌≤◌, true, false, List, [], ◌∷◌, length, sym, refl, ap, ◌∙◌, subst, subst₂, inl, inr, zero-le, not-suc-le-zero, arith}
use Rattle.std.proofs.lemmas.Bool.{cases_eq, cases_order, false≢true}
use Rattle.labels.specs.Meaning.{Meaning, Lawful}
use Rattle.tables.specs.Sets.{has}
use Rattle.tables.specs.declared.types.Tables.{Tables}
use Rattle.tables.specs.State.{user, object, has_object}
use Rattle.sound.specs.declared.clauses.Clause.TheVariants.{Tree}
use Rattle.sound.specs.Sound.{Sound}
use Rattle.calls.specs.declared.types.Call.{Call}
use Rattle.calls.specs.declared.types.Call.TheVariants.{Enter, Launch, Leave, Read, Write, Create, Delete, Move, Raise, Mix, Unmix, Rights, Allow, Bar}
use Rattle.calls.specs.Calls.{asks, AllFine}
use Rattle.histories.specs.Carries.{Sort, an_object, present, Goal, standing, made, Flow, flows, carries, Among, Makes, Ends}
use Rattle.histories.specs.Runs.{call_at, Run, Party, Granted, Begun, Stands, Chain, first, onward, Unbarred, OnList, by_roll, by_allow}
use Rattle.histories.specs.Faithful.{AllCarried, FlowsCarried, ChainsJoin, AllFaithful}
use Rattle.histories.proofs.Wholes.{Loaded}
use Rattle.histories.proofs.Outcome.{outcome}
use Rattle.histories.proofs.Users.{list_stays, list_takes}
use Rattle.histories.proofs.Chains.{by_step, granted_fine, granted_next, stood_before, whole_at, sized_at, stands_has}
use Rattle.histories.proofs.Launches.{has_stands, entries, stands_on}
use Rattle.histories.proofs.Step.{came}

-- the party that a flow leaves is in the tables, and so is the one that it leads to, or the call makes it
abbrev EndsThere : Tables → Call → Flow → Type 0
EndsThere t c (flows s n (standing s' n')) = (present t s n ≡ true) × (present t s' n' ≡ true)
EndsThere t c (flows s n (made s' n' l)) = (present t s n ≡ true) × Makes c s' n'

abbrev AllThere : Tables → Call → List Flow → Type 0
AllThere t c [] = Unit {0}
AllThere t c (f ∷ rest) = EndsThere t c f × AllThere t c rest

-- no call both makes a party and ends it
not_both : (c : Call) (s : Sort) (n : ℕ) → Makes c s n → Ends c s n → ⊥
not_both (Enter u n l) s x a b = b
not_both (Launch s o n l) k x a b = b
not_both (Leave s) k x a b = a
not_both (Read s o) k x a b = b
not_both (Write s o) k x a b = b
not_both (Create s p n kind l) k x a b = b
not_both (Delete s o) k x a b = a
not_both (Move s o q) k x a b = b
not_both (Raise s o l) k x a b = b
not_both (Mix s o) k x a b = b
not_both (Unmix s o) k x a b = b
not_both (Rights s o u mask) k x a b = b
not_both (Allow s u o) k x a b = b
not_both (Bar s u o) k x a b = b

-- a call makes a party of a number that is free
makes_free : (m : Meaning) (t : Tables) (c : Call) (k : Sort) (x : ℕ) → AllFine (asks m t c) → Makes c k x → present t k x ≡ false
makes_free m t (Enter u n l) k x f a = rw (a.0, a.1) f.1.1.0
makes_free m t (Launch s o n l) k x f a = rw (a.0, a.1) f.1.1.1.0
makes_free m t (Leave s) k x f a = absurd a
makes_free m t (Read s o) k x f a = absurd a
makes_free m t (Write s o) k x f a = absurd a
makes_free m t (Create s p n kind l) k x f a = rw (a.0, a.1) f.1.1.1.0
makes_free m t (Delete s o) k x f a = absurd a
makes_free m t (Move s o q) k x f a = absurd a
makes_free m t (Raise s o l) k x f a = absurd a
makes_free m t (Mix s o) k x f a = absurd a
makes_free m t (Unmix s o) k x f a = absurd a
makes_free m t (Rights s o u mask) k x f a = absurd a
makes_free m t (Allow s u o) k x f a = absurd a
makes_free m t (Bar s u o) k x f a = absurd a

module _ (m : Meaning) (t : Tables) (sound : Sound m t) where
  -- the parent of an object is in the tables
  parent_there : (o : ℕ) → has_object t o ≡ true → has_object t (object t o).parent ≡ true
  parent_there o h = ((sound Tree).placed o h).parent.0

  all_there : (c : Call) → AllFine (asks m t c) → AllThere t c (carries t c)
  all_there (Enter u n l) f = tt
  all_there (Launch s o n l) f = ((f.0, (refl, refl)), ((f.1.0, (refl, refl)), tt))
  all_there (Leave s) f = tt
  all_there (Read s o) f = ((f.1.0, f.0), tt)
  all_there (Write s o) f = ((f.0, f.1.0), tt)
  all_there (Create s p n k l) f = ((f.0, (refl, refl)), ((f.0, f.1.0), tt))
  all_there (Delete s o) f = ((f.0, f.1.0), ((f.0, parent_there o f.1.0), tt))
  all_there (Move s o q) f = ((f.0, f.1.0), ((f.0, parent_there o f.1.0), ((f.0, f.1.1.0), ((parent_there o f.1.0, f.1.1.0), tt))))
  all_there (Raise s o l) f = ((f.0, f.1.0), tt)
  all_there (Mix s o) f = ((f.0, f.1.0), tt)
  all_there (Unmix s o) f = ((f.0, f.1.0), tt)
  all_there (Rights s o u mask) f = ((f.0, f.1.0), tt)
  all_there (Allow s u o) f = tt
  all_there (Bar s u o) f = tt

not_le : (j k : ℕ) → suc k ≤ j → j < suc k → ⊥
not_le j k a b = omega arith

module _ {m : Meaning} {roll : Tables} {calls : List Call} {answers : List ℕ} (r : Run m roll calls answers) (laws : Lawful m) (loaded : Loaded m roll) where
  -- an entry that stands later stood before, from its beginning on
  unbarred_before : (u n j i k : ℕ) → i ≤ k → Unbarred r u n j k → Unbarred r u n j i
  unbarred_before u n j i k le free a x y = free a x (omega arith)

  -- what ends no later standing party
  unended : (k : ℕ) (p : Party) → p.since ≤ k → Stands r (suc k) p → Granted r k → Ends (call_at calls k) p.sort p.number → ⊥
  unended k p le s g e = s.unended k le (omega arith) g e

  -- an entry stays from one call to the next
  kept_on : (k u n : ℕ) → k < length calls → has (user (r.tables k) u).allowed.0 n ≡ true → (Granted r k → Ends (call_at calls k) an_object n → ⊥)
      → (Granted r k → (s : ℕ) → call_at calls k ≡ Bar s u n → ⊥) → has (user (r.tables (suc k)) u).allowed.0 n ≡ true
  kept_on k u n lt h on unbar =
      by_step r (λ t. has (user t u).allowed.0 n ≡ true) k lt (λ _. h) (λ g fine. list_stays m (r.tables k) (call_at calls k) fine u n h (on g) (unbar g))

  roll_has : (k u n : ℕ) → k ≤ length calls → Stands r k (record { sort = an_object; number = n; since = 0 }) → has (user roll u).allowed.0 n ≡ true → Unbarred r u n 0 k
      → has (user (r.tables k) u).allowed.0 n ≡ true
  roll_has zero u n le s h free = subst (λ (t : Tables). has (user t u).allowed.0 n ≡ true) (sym r.starts) h
  roll_has (suc k) u n le s h free =
      kept_on k u n (omega arith) (roll_has k u n (omega arith) (stood_before r k (suc k) _ zero-le (omega arith) s) h (unbarred_before u n 0 k (suc k) (omega arith) free))
      (unended k _ zero-le s) (λ g x e. free k zero-le (omega arith) g x e)

  allow_has : (k u n b j x : ℕ) → k ≤ length calls → Stands r k (record { sort = an_object; number = n; since = b }) → j < k → Granted r j → call_at calls j ≡ Allow x u n → b ≤ j → Unbarred r u n (suc j) k
      → has (user (r.tables k) u).allowed.0 n ≡ true
  allow_has zero u n b j x le s lt g e since free = absurd (not-suc-le-zero lt)
  allow_has (suc k) u n b j x le s lt g e since free = elim (cases_eq j k) [
    | inl same ↦
        let fine : AllFine (asks m (r.tables j) (Allow x u n)) = subst (λ (c : Call). AllFine (asks m (r.tables j) c)) e (granted_fine r j g) in
        let here : has (user (outcome (r.tables j) (Allow x u n)) u).allowed.0 n ≡ true = list_takes m (r.tables j) (sized_at r laws loaded j (omega (arith, g.0))) x u n fine in
        let next : r.tables (suc j) ≡ outcome (r.tables j) (Allow x u n) = granted_next r j g ∙ ap (outcome (r.tables j)) e in
        subst (λ (i : ℕ). has (user (r.tables (suc i)) u).allowed.0 n ≡ true) same (subst (λ (t : Tables). has (user t u).allowed.0 n ≡ true) (sym next) here)
    | inr less ↦
        kept_on k u n (omega arith) (allow_has k u n b j x (omega arith) (stood_before r k (suc k) _ (omega arith) (omega arith) s) (omega arith) g e since (unbarred_before u n (suc j) k (suc k) (omega arith) free))
        (unended k _ (omega arith) s) (λ h y f. free k (omega arith) (omega arith) h y f)
  ]

  listed_has : (k : ℕ) → k ≤ length calls → (u : ℕ) (p : Party) → p.sort ≡ an_object → OnList r k u p → has (user (r.tables k) u).allowed.0 p.number ≡ true
  listed_has k le u p is (by_roll s b h free) = roll_has k u p.number le (rw (is, b) at s) h free
  listed_has k le u p is (by_allow j x s lt g e since free) = allow_has k u p.number p.since j x le (rw is at s) lt g e since free

  join : (p : Party) (i : ℕ) (q : Party) (j a : ℕ) {w : Party} {b : ℕ} → Chain r p i q j → j < a → Chain r q a w b → Chain r p i w b
  join p i q j a front lt (first c) = onward front lt c
  join p i q j a front lt (onward more up c) = onward (join p i q j a front lt more) up c

  chains_join : ChainsJoin r
  chains_join p q w i j a b front more lt = join p i q j a front lt more

  -- each of these flows of call k, which are among all that it carries
  each : (k : ℕ) (g : Granted r k) (rest : List Flow) → ((s : Sort) (n : ℕ) (goal : Goal) → Among rest s n goal → Among (carries (r.tables k) (call_at calls k)) s n goal)
      → AllThere (r.tables k) (call_at calls k) rest → AllCarried r k rest
  each k g [] inc there = tt
  each k g (flows s n (standing s' n') ∷ rest) inc there =
      let lt : k < length calls = g.0 in
      let le : k ≤ length calls = omega arith in
      let from = has_stands r laws loaded k le s n there.0.0 in
      let to = has_stands r laws loaded k le s' n' there.0.1 in
      let p : Party = record { sort = s; number = n; since = from.0 } in
      let q : Party = record { sort = s'; number = n'; since = to.0 } in (
        (p, q, refl, refl, refl, refl, to.1, record { granted = g; goal = standing s' n'; stood = from.1; along = inc s n (standing s' n') (inl (refl, refl, refl)); reached = (refl, refl, to.1) }),
        each k g rest (λ s n goal a. inc s n goal (inr a)) there.1,
      )
  each k g (flows s n (made s' n' l) ∷ rest) inc there =
      let lt : k < length calls = g.0 in
      let le : k ≤ length calls = omega arith in
      let from = has_stands r laws loaded k le s n there.0.0 in
      let p : Party = record { sort = s; number = n; since = from.0 } in
      let q : Party = record { sort = s'; number = n'; since = suc k } in (
        (
          p,
          q,
          refl,
          refl,
          refl,
          refl,
          record { begun = (g, there.0.1); before = omega arith; unended = λ j a b. absurd (not_le j k a b) },
          record { granted = g; goal = made s' n' l; stood = from.1; along = inc s n (made s' n' l) (inl (refl, refl, refl)); reached = (refl, refl, refl) },
        ),
        each k g rest (λ s n goal a. inc s n goal (inr a)) there.1,
      )

  flows_carried : FlowsCarried r
  flows_carried k lt zero_answer =
      let g : Granted r k = (lt, zero_answer) in
      let le : k ≤ length calls = omega arith in
      each k g (carries (r.tables k) (call_at calls k)) (λ s n goal a. a) (all_there m (r.tables k) (whole_at r laws loaded k le).sound (call_at calls k) (granted_fine r k g))

  -- a party whose number is still there was not ended
  stays : (k : ℕ) → k < length calls → (p : Party) → Stands r k p → present (r.tables (suc k)) p.sort p.number ≡ true → Stands r (suc k) p
  stays k lt p s here = stands_on r k p s (λ g ends.
      let there : present (outcome (r.tables k) (call_at calls k)) p.sort p.number ≡ true = subst (λ (t : Tables). present t p.sort p.number ≡ true) (granted_next r k g) here in
      elim (came m laws (r.tables k) (call_at calls k) p.sort p.number (granted_fine r k g) there) [
        | inl was ↦ was.1 ends
        | inr new ↦ not_both (call_at calls k) p.sort p.number new ends
      ])

  -- a number is given to one party at a time: none is made while another stands
  no_later : (k : ℕ) → k ≤ length calls → (p q : Party) → Stands r k p → Stands r k q → p.sort ≡ q.sort → p.number ≡ q.number → p.since < q.since → ⊥
  no_later k le p q s t es en lt = go q.since lt t.before t.begun
    where
      go : (b : ℕ) → p.since < b → b ≤ k → Begun r q.sort q.number b → ⊥
      go zero a h e = not-suc-le-zero a
      go (suc j) a h e =
          let before : Stands r j p = stood_before r j k p (omega arith) (omega arith) s in
          let on : present (r.tables j) q.sort q.number ≡ true = subst₂ (λ (x : Sort) (y : ℕ). present (r.tables j) x y ≡ true) es en (stands_has r laws loaded j p (omega arith) before) in
          false≢true (sym (makes_free m (r.tables j) (call_at calls j) q.sort q.number (granted_fine r j e.0) e.1) ∙ on)

  alone : (k : ℕ) → k ≤ length calls → (p q : Party) → Stands r k p → Stands r k q → p.sort ≡ q.sort → p.number ≡ q.number → p.since ≡ q.since
  alone k le p q s t es en = elim (cases_order p.since q.since) [
    | inl e ↦ e
    | inr o ↦ elim o [
      | inl h ↦ absurd (no_later k le p q s t es en h)
      | inr h ↦ absurd (no_later k le q p t s (sym es) (sym en) h)
    ]
  ]

  -- what the list holds stands
  on_list_stands : (k u : ℕ) (p : Party) → OnList r k u p → Stands r k p
  on_list_stands k u p (by_roll s b h free) = s
  on_list_stands k u p (by_allow j x s lt g e since free) = s

-- every run from what a load leaves
pub faithful : (m : Meaning) → Lawful m → (roll : Tables) → Loaded m roll → AllFaithful m roll
faithful m laws roll loaded calls answers r = record {
  parties = record {
    there = has_stands r laws loaded;
    only = λ k le p s. stands_has r laws loaded k p le s;
    alone = alone r laws loaded;
    stays = stays r laws loaded;
  };
  lists = record {
    there = λ k le u n h. let e = entries r laws loaded k le u n h in (e.0, e.1, e.2, on_list_stands r laws loaded k u e.0 e.3, e.3);
    only = λ k le u p is on. (on_list_stands r laws loaded k u p on, listed_has r laws loaded k le u p is on);
  };
  carried = flows_carried r laws loaded;
  single = λ k p q c. first c;
  joined = chains_join r laws loaded;
}
