-- A launch by no administrator is of the very program that the user's list held, and no program is written into. Assumes nothing.
use Rattle.std.proofs.Common.{◌≡◌, ℕ, zero, suc, ◌<◌, ◌≤◌, true, List, length, sym, refl, ◌∙◌, subst, subst₂, inl, inr, zero-le, not-suc-le-zero, arith}
use Rattle.std.proofs.lemmas.Bool.{cases_eq, true≢false, false≢true}
use Rattle.labels.specs.Meaning.{Meaning, Lawful}
use Rattle.tables.specs.Sets.{has}
use Rattle.tables.specs.declared.types.Kind.TheVariants.{File}
use Rattle.tables.specs.declared.types.Tables.{Tables}
use Rattle.tables.specs.State.{user, subject, object, user_at}
use Rattle.sound.specs.declared.clauses.Clause.TheVariants.{Lists}
use Rattle.calls.specs.declared.types.Call.{Call}
use Rattle.calls.specs.declared.types.Call.TheVariants.{Launch, Write, Allow, Bar}
use Rattle.calls.specs.Calls.{asks, AllFine}
use Rattle.histories.specs.Carries.{Sort, a_subject, an_object, present, Ends}
use Rattle.histories.proofs.Wholes.{Loaded}
use Rattle.histories.specs.Runs.{call_at, Run, Party, Granted, Stands, Unbarred, OnList, by_roll, by_allow}
use Rattle.histories.specs.Promises.{LaunchesListed, ProgramsUnwritten}
use Rattle.histories.proofs.Step.{came}
use Rattle.histories.proofs.Users.{entry, entry_some}
use Rattle.histories.proofs.Chains.{granted_fine, by_step}

module _ {m : Meaning} {roll : Tables} {calls : List Call} {answers : List ℕ} (r : Run m roll calls answers) where
  -- a party stands on, if the call does not end it
  pub stands_on : (k : ℕ) (p : Party) → Stands r k p → (Granted r k → Ends (call_at calls k) p.sort p.number → ⊥) → Stands r (suc k) p
  stands_on k p s on = record {
    begun = s.begun;
    before = let h : p.since ≤ k = s.before in omega arith;
    unended = λ j a b g e. elim (cases_eq j k) [
      | inl same ↦ on (subst (Granted r) same g) (subst (λ (i : ℕ). Ends (call_at calls i) p.sort p.number) same e)
      | inr other ↦ s.unended j a (omega arith) g e
    ];
  }

  -- an entry stays unbarred, if the call does not bar it
  unbarred_on : (u n j k : ℕ) → Unbarred r u n j k → (Granted r k → (s : ℕ) → call_at calls k ≡ Bar s u n → ⊥) → Unbarred r u n j (suc k)
  unbarred_on u n j k free on i a b g s e = elim (cases_eq i k) [
    | inl same ↦ on (subst (Granted r) same g) s (subst (λ (x : ℕ). call_at calls x ≡ Bar s u n) same e)
    | inr other ↦ free i a (omega arith) g s e
  ]

  -- so the entry stands on
  listed_on : (k u : ℕ) (p : Party) → OnList r k u p → (Granted r k → Ends (call_at calls k) p.sort p.number → ⊥) → (Granted r k → (s : ℕ) → call_at calls k ≡ Bar s u p.number → ⊥) → OnList r (suc k) u p
  listed_on k u p (by_roll s e b free) on unbar = by_roll (stands_on k p s on) e b (unbarred_on u p.number 0 k free unbar)
  listed_on k u p (by_allow j a s lt g e since free) on unbar = by_allow j a (stands_on k p s on) (omega arith) g e since (unbarred_on u p.number (suc j) k free unbar)

  module _ (laws : Lawful m) (loaded : Loaded m roll) where
    -- some party of this sort and number stands
    abbrev pub Standing : ℕ → Sort → ℕ → Type 0
    Standing k s n = (b : ℕ) × Stands r k (record { sort = s; number = n; since = b })

    -- what is in the tables is a party that stands
    pub has_stands : (k : ℕ) → k ≤ length calls → (s : Sort) (n : ℕ) → present (r.tables k) s n ≡ true → Standing k s n
    has_stands zero h s n = λ here. go s (subst (λ (t : Tables). present t s n ≡ true) r.starts here)
      where
        go : (s : Sort) → present roll s n ≡ true → Standing 0 s n
        go a_subject e = absurd (false≢true (sym (loaded.alone n) ∙ e))
        go an_object e = (0, record { begun = (refl, e); before = zero-le; unended = λ j a b. absurd (not-suc-le-zero b) })
    has_stands (suc k) h s n =
        let before : present (r.tables k) s n ≡ true → Standing k s n = has_stands k (omega arith) s n in
        by_step r (λ t. present t s n ≡ true → Standing (suc k) s n) k h
        (λ no' here. let standing = before here in (standing.0, stands_on k _ standing.1 (λ g. absurd (no' g))))
        (λ g fine here. elim (came m laws (r.tables k) (call_at calls k) s n fine here) [
          | inl was ↦ (let standing = before was.0 in (standing.0, stands_on k _ standing.1 (λ _. was.1)))
          | inr made ↦ (suc k, record { begun = (g, made); before = omega arith; unended = λ j a b. absurd (not_le a b) })
        ])
      where
        not_le : {j : ℕ} → suc k ≤ j → j < suc k → ⊥
        not_le a b = omega arith

    -- the user's list holds the very program of this number
    abbrev pub HeldBy : ℕ → ℕ → ℕ → Type 0
    HeldBy k u o = (p : Party) × (p.sort ≡ an_object) × (p.number ≡ o) × OnList r k u p

    -- each entry of a list is for a program that has stood since
    pub entries : (k : ℕ) → k ≤ length calls → (u o : ℕ) → has (user (r.tables k) u).allowed.0 o ≡ true → HeldBy k u o
    entries zero h u o = λ b.
        let b' : has (user roll u).allowed.0 o ≡ true = subst (λ (t : Tables). has (user t u).allowed.0 o ≡ true) r.starts b in
        let there = loaded.sound Lists u (entry_some m roll (user_at roll u) o b') o b' in (
          record { sort = an_object; number = o; since = 0 },
          refl,
          refl,
          by_roll (record { begun = (refl, there.0); before = zero-le; unended = λ j a c. absurd (not-suc-le-zero c) }) refl b' (λ i a c. absurd (not-suc-le-zero c)),
        )
    entries (suc k) h u o =
        let before : has (user (r.tables k) u).allowed.0 o ≡ true → HeldBy k u o = entries k (omega arith) u o in
        by_step r (λ t. has (user t u).allowed.0 o ≡ true → HeldBy (suc k) u o) k h
        (λ no' b. let was = before b in (was.0, was.1, was.2, listed_on k u was.0 was.3 (λ g. absurd (no' g)) (λ g. absurd (no' g))))
        (λ g fine b. elim (entry m (r.tables k) (call_at calls k) fine u o b) [
          | inl kept ↦ (let was = before kept.0 in (
            was.0,
            was.1,
            was.2,
            listed_on k u was.0 was.3
                (λ _ e. kept.1 (subst₂ (Ends (call_at calls k)) was.1 was.2 e))
                (λ _ s e. kept.2 s (subst (λ (x : ℕ). call_at calls k ≡ Bar s u x) was.2 e)),
          ))
          | inr made ↦ (let p = has_stands k (omega arith) an_object o made.2 in (
            record { sort = an_object; number = o; since = p.0 },
            refl,
            refl,
            by_allow k made.0 (stands_on k _ p.1 (λ _ e. allow_ends made.0 o made.1 e)) (omega arith) g made.1 p.1.before (λ i a c. absurd (not_le a c)),
          ))
        ])
      where
        not_le : {j : ℕ} → suc k ≤ j → j < suc k → ⊥
        not_le a b = omega arith

        allow_ends : (s x : ℕ) → call_at calls k ≡ Allow s u o → Ends (call_at calls k) an_object x → ⊥
        allow_ends s x e d = subst (λ (c : Call). Ends c an_object x) e d

    -- a launch asks for an entry of the list, or an administrator
    pub launches_listed : LaunchesListed r
    launches_listed k s o n l g e common =
        let fine : AllFine (asks m (r.tables k) (Launch s o n l)) = subst (λ (c : Call). AllFine (asks m (r.tables k) c)) e (granted_fine r k g) in
        let lt : k < length calls = g.0 in
        elim fine.1.1.1.1.1.1.1.0 [
          | inl on ↦ entries k (omega arith) (subject (r.tables k) s).user o on
          | inr admin ↦ absurd (true≢false (sym admin ∙ common))
        ]

  -- a write asks for a file
  pub programs_unwritten : ProgramsUnwritten r
  programs_unwritten k s o g e program =
      let fine : AllFine (asks m (r.tables k) (Write s o)) = subst (λ (c : Call). AllFine (asks m (r.tables k) c)) e (granted_fine r k g) in
      let file : (object (r.tables k) o).kind ≡ File = fine.1.1.0 in
      let z : ◌≡◌ {A = ℕ} 0 1 = cc in omega arith
