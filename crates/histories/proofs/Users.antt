-- What a granted call does to the users, their allow lists, and the ranges that subjects stay in. Assumes nothing.
use Rattle.std.proofs.Common.{◌≡◌, ℕ, ◌<◌, true, not, ◌&&◌, eqb, ltb, ◌⊎◌, List, get_or, set, is_some, Some, None, Option, unwrap_or, sym, refl, ap, ◌∙◌, subst, inl, inr, arith}
use Rattle.std.proofs.lemmas.Bool.{true≢false, false≢true, or_cases, or_right, and_parts, not_from_true, eqb-true, eq-eqb, ne_eqb, lt-ltb}
use Rattle.std.specs.Option.{option_map}
use Rattle.labels.specs.Meaning.{Meaning}
use Rattle.roll.specs.Formed.{Sized}
use Rattle.tables.specs.Sets.{has, inserted, without_element}
use Rattle.tables.proofs.Bitwise.{has_none, has_inserted, has_without}
use Rattle.tables.specs.declared.types.Kind.TheVariants.{Program}
use Rattle.tables.specs.declared.types.User.{User}
use Rattle.tables.specs.declared.types.Subject.{Subject}
use Rattle.tables.specs.declared.types.Tables.{Tables}
use Rattle.tables.specs.State.{user, subject, object, user_at, subject_at, has_user, has_object, blank_user, blank_subject}
use Rattle.tables.specs.Changes.{put_user, listing, unlisting}
use Rattle.tables.proofs.Puts.{at_put, at_place, at_map, within}
use Rattle.sound.specs.Nesting.{InRange}
use Rattle.calls.specs.declared.types.Call.{Call}
use Rattle.calls.specs.declared.types.Call.TheVariants.{Enter, Launch, Leave, Read, Write, Create, Delete, Move, Raise, Mix, Unmix, Rights, Allow, Bar}
use Rattle.calls.specs.Calls.{asks, AllFine}
use Rattle.histories.specs.Carries.{an_object, Ends}
use Rattle.histories.specs.Kept.{Ranged}
use Rattle.histories.proofs.Outcome.{outcome}
use Rattle.histories.proofs.Step.{no_object}

-- the user stays, with all but the list
pub record Kept (x y : Option User) : Type 0 where
  pub stays : is_some y ≡ is_some x
  pub admin : (unwrap_or y blank_user).admin ≡ (unwrap_or x blank_user).admin
  pub groups : (unwrap_or y blank_user).groups ≡ (unwrap_or x blank_user).groups
  pub floor : (unwrap_or y blank_user).floor ≡ (unwrap_or x blank_user).floor
  pub top : (unwrap_or y blank_user).top ≡ (unwrap_or x blank_user).top

kept : (x : Option User) → Kept x x
kept x = record { stays = refl; admin = refl; groups = refl; floor = refl; top = refl }

-- a change that keeps a user keeps the one in a slot
kept_by : (f : User → User) → ((x : User) → Kept (Some x) (Some (f x))) → (y : Option User) → is_some y ≡ true → Kept y (Some (f (unwrap_or y blank_user)))
kept_by f same None h = absurd (false≢true h)
kept_by f same (Some x) h = same x

kept_listing : (o : ℕ) (x : User) → Kept (Some x) (Some (listing o x))
kept_listing o x = record { stays = refl; admin = refl; groups = refl; floor = refl; top = refl }

kept_unlisting : (o : ℕ) (x : User) → Kept (Some x) (Some (unlisting o x))
kept_unlisting o x = record { stays = refl; admin = refl; groups = refl; floor = refl; top = refl }

kept_unlisted : (o : ℕ) (x : Option User) → Kept x (option_map (unlisting o) x)
kept_unlisted o None = kept None
kept_unlisted o (Some u) = kept_unlisting o u

-- what is in a set of objects with one more, or with one less
in_inserted : (n k j : ℕ) → has (inserted n k) j ≡ true → (k ≡ j) ⊎ (has n j ≡ true)
in_inserted n k j h = elim (or_cases (ltb k 64 && eqb j k) (has n j) (sym (has_inserted n k j) ∙ h)) [
  | inl e ↦ inl (sym (eqb-true j k (and_parts (ltb k 64) (eqb j k) e).1))
  | inr b ↦ inr b
]

in_without : (n k j : ℕ) → has (without_element n k) j ≡ true → (k ≡ j → ⊥) × (has n j ≡ true)
in_without n k j h =
    let p = and_parts (not (eqb j k)) (has n j) (sym (has_without n k j) ∙ h) in
    ((λ e. true≢false (sym p.0 ∙ not_from_true (eqb j k) (eq-eqb j k (sym e)))), p.1)

module _ (m : Meaning) (t : Tables) where
  kept_put : (v u : ℕ) (f : User → User) → ((x : User) → Kept (Some x) (Some (f x))) → has_user t v ≡ true → Kept (user_at t u) (user_at (put_user t v (Some (f (user t v)))) u)
  kept_put v u f same h =
      at_put (λ y. Kept (user_at t u) y) t.users v u _ (λ e. subst (λ (w : ℕ). Kept (user_at t w) (Some (f (user t v)))) e (kept_by f same (user_at t v) h)) (kept (user_at t u))

  -- every user stays, with all but the list
  pub users_kept : (c : Call) → AllFine (asks m t c) → (u : ℕ) → Kept (user_at t u) (user_at (outcome t c) u)
  users_kept (Enter u n l) fine v = kept (user_at t v)
  users_kept (Launch s o n l) fine v = kept (user_at t v)
  users_kept (Leave s) fine v = kept (user_at t v)
  users_kept (Read s o) fine v = kept (user_at t v)
  users_kept (Write s o) fine v = kept (user_at t v)
  users_kept (Create s p n kind l) fine v = kept (user_at t v)
  users_kept (Delete s o) fine v = at_map Kept (option_map (unlisting o)) t.users v refl (kept_unlisted o)
  users_kept (Move s o q) fine v = kept (user_at t v)
  users_kept (Raise s o l) fine v = kept (user_at t v)
  users_kept (Mix s o) fine v = kept (user_at t v)
  users_kept (Unmix s o) fine v = kept (user_at t v)
  users_kept (Rights s o u mask) fine v = kept (user_at t v)
  users_kept (Allow s u o) fine v = kept_put u v (listing o) (kept_listing o) fine.1.0
  users_kept (Bar s u o) fine v = kept_put u v (unlisting o) (kept_unlisting o) fine.1.0

  -- a subject in range stays in range where the users stay
  ranged_users : (t' : Tables) → t'.subjects ≡ t.subjects → ((u : ℕ) → Kept (user_at t u) (user_at t' u)) → Ranged m t → Ranged m t'
  ranged_users t' e keep ok s h =
      let e' : subject_at t s ≡ subject_at t' s = ap (λ (l : List (Option Subject)). get_or l s None) (sym e) in
      let k = keep (subject t' s).user in
      let was : InRange m (user t (subject t' s).user) (subject t' s).label
      = subst (λ (x : Option Subject). is_some x ≡ true → InRange m (user t (unwrap_or x blank_subject).user) (unwrap_or x blank_subject).label) e' (ok s) h in
      (subst (λ (x : ℕ). m.flow x (subject t' s).label ≡ true) (sym k.floor) was.0, subst (λ (x : ℕ). m.flow (subject t' s).label x ≡ true) (sym k.top) was.1)

  ranged_put : Ranged m t → (n s : ℕ) (v : Option Subject) → (is_some v ≡ true → InRange m (user t (unwrap_or v blank_subject).user) (unwrap_or v blank_subject).label)
      → is_some (get_or (set t.subjects n v) s None) ≡ true
      → InRange m (user t (unwrap_or (get_or (set t.subjects n v) s None) blank_subject).user) (unwrap_or (get_or (set t.subjects n v) s None) blank_subject).label
  ranged_put ok n s v put = at_put (λ x. is_some x ≡ true → InRange m (user t (unwrap_or x blank_subject).user) (unwrap_or x blank_subject).label) t.subjects n s v (λ e. put) (ok s)

  -- every subject stays in its user's range
  pub ranged_on : Ranged m t → (c : Call) → AllFine (asks m t c) → Ranged m (outcome t c)
  ranged_on ok (Enter u n l) fine = λ s. ranged_put ok n s _ (λ _. fine.1.1.1.1.0)
  ranged_on ok (Launch s o n l) fine = λ x. ranged_put ok n x _ (λ _. fine.1.1.1.1.1.1.1.1.1.1.0)
  ranged_on ok (Leave s) fine = λ x. ranged_put ok s x None (λ h. absurd (false≢true h))
  ranged_on ok (Read s o) fine = ok
  ranged_on ok (Write s o) fine = ok
  ranged_on ok (Create s p n kind l) fine = ok
  ranged_on ok (Delete s o) fine = ranged_users (outcome t (Delete s o)) refl (users_kept (Delete s o) fine) ok
  ranged_on ok (Move s o q) fine = ok
  ranged_on ok (Raise s o l) fine = ok
  ranged_on ok (Mix s o) fine = ok
  ranged_on ok (Unmix s o) fine = ok
  ranged_on ok (Rights s o u mask) fine = ok
  ranged_on ok (Allow s u o) fine = ranged_users (outcome t (Allow s u o)) refl (users_kept (Allow s u o) fine) ok
  ranged_on ok (Bar s u o) fine = ranged_users (outcome t (Bar s u o)) refl (users_kept (Bar s u o) fine) ok

  -- where an entry of user u's list comes from
  abbrev Entry : Call → ℕ → ℕ → Type 0
  Entry c u o =
      ((has (user t u).allowed.0 o ≡ true) × (Ends c an_object o → ⊥) × ((s : ℕ) → c ≡ Bar s u o → ⊥))
      ⊎ ((s : ℕ) × (c ≡ Allow s u o) × (has_object t o ≡ true) × ((object t o).kind ≡ Program))

  -- only a user that exists has entries
  pub entry_some : (x : Option User) (o : ℕ) → has (unwrap_or x blank_user).allowed.0 o ≡ true → is_some x ≡ true
  entry_some None o h = absurd (false≢true (sym (has_none o) ∙ h))
  entry_some (Some u) o h = refl

  -- what is on a list after a program was struck from it is another, and was on it before
  struck : (o x : ℕ) (y : Option User) → has (unwrap_or (option_map (unlisting o) y) blank_user).allowed.0 x ≡ true → (o ≡ x → ⊥) × (has (unwrap_or y blank_user).allowed.0 x ≡ true)
  struck o x None h = absurd (false≢true (sym (has_none x) ∙ h))
  struck o x (Some u) h = in_without u.allowed.0 o x h

  -- an entry was there, and was neither barred nor its program deleted, or the call allows it
  pub entry : (c : Call) → AllFine (asks m t c) → (u o : ℕ) → has (user (outcome t c) u).allowed.0 o ≡ true → Entry c u o
  entry (Enter v n l) fine u o = λ h. inl (h, (λ z. z), λ s' e'. let z : ◌≡◌ {A = ℕ} 0 1 = cc in omega arith)
  entry (Launch s p n l) fine u o = λ h. inl (h, (λ z. z), λ s' e'. let z : ◌≡◌ {A = ℕ} 0 1 = cc in omega arith)
  entry (Leave s) fine u o = λ h. inl (h, (λ z. no_object z.0), λ s' e'. let z : ◌≡◌ {A = ℕ} 0 1 = cc in omega arith)
  entry (Read s p) fine u o = λ h. inl (h, (λ z. z), λ s' e'. let z : ◌≡◌ {A = ℕ} 0 1 = cc in omega arith)
  entry (Write s p) fine u o = λ h. inl (h, (λ z. z), λ s' e'. let z : ◌≡◌ {A = ℕ} 0 1 = cc in omega arith)
  entry (Create s p n kind l) fine u o = λ h. inl (h, (λ z. z), λ s' e'. let z : ◌≡◌ {A = ℕ} 0 1 = cc in omega arith)
  entry (Delete s p) fine u o = λ h.
      let was = at_map (λ x y. has (unwrap_or y blank_user).allowed.0 o ≡ true → (p ≡ o → ⊥) × (has (unwrap_or x blank_user).allowed.0 o ≡ true)) (option_map (unlisting p)) t.users u refl (struck p o) h in
      inl (was.1, (λ z. was.0 (sym z.1)), λ s' e'. let z : ◌≡◌ {A = ℕ} 0 1 = cc in omega arith)
  entry (Move s p q) fine u o = λ h. inl (h, (λ z. z), λ s' e'. let z : ◌≡◌ {A = ℕ} 0 1 = cc in omega arith)
  entry (Raise s p l) fine u o = λ h. inl (h, (λ z. z), λ s' e'. let z : ◌≡◌ {A = ℕ} 0 1 = cc in omega arith)
  entry (Mix s p) fine u o = λ h. inl (h, (λ z. z), λ s' e'. let z : ◌≡◌ {A = ℕ} 0 1 = cc in omega arith)
  entry (Unmix s p) fine u o = λ h. inl (h, (λ z. z), λ s' e'. let z : ◌≡◌ {A = ℕ} 0 1 = cc in omega arith)
  entry (Rights s p v mask) fine u o = λ h. inl (h, (λ z. z), λ s' e'. let z : ◌≡◌ {A = ℕ} 0 1 = cc in omega arith)
  entry (Allow s v p) fine u o = at_put (λ y. has (unwrap_or y blank_user).allowed.0 o ≡ true → Entry (Allow s v p) u o) t.users v u (Some (listing p (user t v)))
      (λ e h. elim (in_inserted (user t v).allowed.0 p o h) [
        | inl same ↦ inr (s, (cc), subst (λ (x : ℕ). has_object t x ≡ true) same fine.1.1.0, subst (λ (x : ℕ). (object t x).kind ≡ Program) same fine.1.1.1.0)
        | inr b ↦ inl (subst (λ (w : ℕ). has (user t w).allowed.0 o ≡ true) e b, (λ z. z), λ s' e'. let z : ◌≡◌ {A = ℕ} 0 1 = cc in omega arith)
      ])
      (λ h. inl (h, (λ z. z), λ s' e'. let z : ◌≡◌ {A = ℕ} 0 1 = cc in omega arith))
  entry (Bar s v p) fine u o = at_place (λ y. has (unwrap_or y blank_user).allowed.0 o ≡ true → Entry (Bar s v p) u o) t.users v u (Some (unlisting p (user t v))) (within t.users v fine.1.0)
      (λ e h. let b = in_without (user t v).allowed.0 p o h in inl (subst (λ (w : ℕ). has (user t w).allowed.0 o ≡ true) e b.1, (λ z. z), λ s' e'. b.0 (cc)))
      (λ ne h. inl (h, (λ z. z), λ s' e'. ne (cc)))

  -- an entry stays, unless the call deletes its program or bars it
  without_other : (n k j : ℕ) → (k ≡ j → ⊥) → has n j ≡ true → has (without_element n k) j ≡ true
  without_other n k j ne h = has_without n k j ∙ rw (ne_eqb j k (λ e. ne (sym e)), h) refl

  struck_other : (o x : ℕ) → (o ≡ x → ⊥) → (y : Option User) → has (unwrap_or y blank_user).allowed.0 x ≡ true → has (unwrap_or (option_map (unlisting o) y) blank_user).allowed.0 x ≡ true
  struck_other o x ne None h = h
  struck_other o x ne (Some u) h = without_other u.allowed.0 o x ne h

  pub list_stays : (c : Call) → AllFine (asks m t c) → (u o : ℕ) → has (user t u).allowed.0 o ≡ true → (Ends c an_object o → ⊥) → ((s : ℕ) → c ≡ Bar s u o → ⊥) → has (user (outcome t c) u).allowed.0 o ≡ true
  list_stays (Enter v n l) fine u o h on unbar = h
  list_stays (Launch s p n l) fine u o h on unbar = h
  list_stays (Leave s) fine u o h on unbar = h
  list_stays (Read s p) fine u o h on unbar = h
  list_stays (Write s p) fine u o h on unbar = h
  list_stays (Create s p n kind l) fine u o h on unbar = h
  list_stays (Delete s p) fine u o h on unbar =
      at_map (λ x y. has (unwrap_or x blank_user).allowed.0 o ≡ true → has (unwrap_or y blank_user).allowed.0 o ≡ true) (option_map (unlisting p)) t.users u refl
      (struck_other p o (λ e. on (refl, sym e))) h
  list_stays (Move s p q) fine u o h on unbar = h
  list_stays (Raise s p l) fine u o h on unbar = h
  list_stays (Mix s p) fine u o h on unbar = h
  list_stays (Unmix s p) fine u o h on unbar = h
  list_stays (Rights s p v mask) fine u o h on unbar = h
  list_stays (Allow s v p) fine u o h on unbar = at_put (λ y. has (unwrap_or y blank_user).allowed.0 o ≡ true) t.users v u (Some (listing p (user t v)))
      (λ e. has_inserted (user t v).allowed.0 p o ∙ or_right (ltb p 64 && eqb o p) (has (user t v).allowed.0 o) (subst (λ (w : ℕ). has (user t w).allowed.0 o ≡ true) (sym e) h)) h
  list_stays (Bar s v p) fine u o h on unbar = at_put (λ y. has (unwrap_or y blank_user).allowed.0 o ≡ true) t.users v u (Some (unlisting p (user t v)))
      (λ e. without_other (user t v).allowed.0 p o (λ f. unbar s (cc (e, f))) (subst (λ (w : ℕ). has (user t w).allowed.0 o ≡ true) (sym e) h)) h

  -- an allowed program is on the list
  pub list_takes : Sized t → (s u o : ℕ) → AllFine (asks m t (Allow s u o)) → has (user (outcome t (Allow s u o)) u).allowed.0 o ≡ true
  list_takes size s u o fine =
      let small : o < 64 = subst (λ (k : ℕ). o < k) size.objects (within t.objects o fine.1.1.0) in
      at_place (λ y. has (unwrap_or y blank_user).allowed.0 o ≡ true) t.users u u (Some (listing o (user t u))) (within t.users u fine.1.0)
      (λ _. has_inserted (user t u).allowed.0 o o ∙ rw (lt-ltb o 64 small, eq-eqb o o refl) refl) (λ ne. absurd (ne refl))
