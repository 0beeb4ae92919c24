-- What a chain of granted calls carries flows on. Assumes nothing.
use Rattle.std.proofs.Common.{◌≡◌, ℕ, zero, suc, ◌<◌, ◌≤◌, true, List, length, sym, refl, ap, ◌∙◌, subst, subst₂, inl, inr, arith}
use Rattle.std.proofs.lemmas.Bool.{cases_eq}
use Rattle.labels.specs.Meaning.{Meaning, Lawful}
use Rattle.tables.specs.declared.types.Tables.{Tables}
use Rattle.roll.specs.Formed.{Sized}
use Rattle.calls.specs.declared.types.Call.{Call}
use Rattle.calls.specs.Calls.{asks, AllFine, Answer}
use Rattle.calls.specs.Effects.{after}
use Rattle.histories.specs.Carries.{Sort, present, label_of, Goal, standing, made, carries, Among, Ends}
use Rattle.histories.proofs.Wholes.{Loaded, Whole}
use Rattle.histories.specs.Runs.{call_at, answer_at, Run, Party, Granted, Begun, Stands, label_at, Reaches, Carries, Chain, first, onward}
use Rattle.histories.specs.Promises.{FlowsOn}
use Rattle.histories.proofs.Outcome.{outcome, outcome_effect}
use Rattle.histories.proofs.Step.{LabelsStand, carried_flows, grow, goal_of, makes_has}
use Rattle.histories.proofs.Keeps.{labels_stand, whole_after, whole_loaded}

module _ {m : Meaning} {roll : Tables} {calls : List Call} {answers : List ℕ} (r : Run m roll calls answers) where
  -- what holds after an answered call, by whether it is refused or granted
  by_answer : (P : Tables → Type 0) (t : Tables) (c : Call) (a : ℕ) → Answer m t c a → ((a ≡ 0 → ⊥) → P t) → (a ≡ 0 → AllFine (asks m t c) → P (outcome t c)) → P (after t c a)
  by_answer P t c zero fine p f = subst P (outcome_effect m t c fine) (f refl fine)
  by_answer P t c (suc w) ans p f = p (λ e. omega arith)

  -- the same of a call of the run
  pub by_step : (P : Tables → Type 0) (k : ℕ) → k < length calls → ((Granted r k → ⊥) → P (r.tables k))
      → (Granted r k → AllFine (asks m (r.tables k) (call_at calls k)) → P (outcome (r.tables k) (call_at calls k))) → P (r.tables (suc k))
  by_step P k h p f =
      subst P (sym (r.goes k h))
      (by_answer P (r.tables k) (call_at calls k) (answer_at answers k) (r.answered k h) (λ refused. p (λ g. refused g.1)) (λ e fine. f (h, e) fine))

  -- all that a granted call of the run asks is fine
  pub granted_fine : (k : ℕ) → Granted r k → AllFine (asks m (r.tables k) (call_at calls k))
  granted_fine k g = subst (Answer m (r.tables k) (call_at calls k)) g.1 (r.answered k g.0)

  -- and its outcome comes next
  pub granted_next : (k : ℕ) → Granted r k → r.tables (suc k) ≡ outcome (r.tables k) (call_at calls k)
  granted_next k g = r.goes k g.0 ∙ ap (after (r.tables k) (call_at calls k)) g.1 ∙ sym (outcome_effect m (r.tables k) (call_at calls k) (granted_fine k g))

  -- a party that stands later stood before, from its beginning on
  pub stood_before : (j k : ℕ) (p : Party) → p.since ≤ j → j ≤ k → Stands r k p → Stands r j p
  stood_before j k p a b s = record { begun = s.begun; before = a; unended = λ i x y. s.unended i x (omega arith) }

  module _ (laws : Lawful m) (loaded : Loaded m roll) where
    -- the tables of a run are whole
    pub whole_at : (k : ℕ) → k ≤ length calls → Whole m (r.tables k)
    whole_at zero h = subst (Whole m) (sym r.starts) (whole_loaded m roll loaded)
    whole_at (suc k) h =
        subst (Whole m) (sym (r.goes k h)) (whole_after m laws (r.tables k) (call_at calls k) (answer_at answers k) (whole_at k (omega arith)) (r.answered k h))

    pub sized_at : (k : ℕ) → k ≤ length calls → Sized (r.tables k)
    sized_at k h = (whole_at k h).sized

    labelled_at : (k : ℕ) → k ≤ length calls → LabelsStand m (r.tables k)
    labelled_at k h = labels_stand m (r.tables k) (whole_at k h).sound

    -- a party that a call does not end stands on, and its label flows to what it is then
    grown_step : (k : ℕ) (s : Sort) (n : ℕ) → k < length calls → present (r.tables k) s n ≡ true → (Granted r k → Ends (call_at calls k) s n → ⊥)
        → (present (r.tables (suc k)) s n ≡ true) × (m.flow (label_of (r.tables k) s n) (label_of (r.tables (suc k)) s n) ≡ true)
    grown_step k s n h here on =
        let ok : LabelsStand m (r.tables k) = labelled_at k (omega arith) in
        by_step (λ t. (present t s n ≡ true) × (m.flow (label_of (r.tables k) s n) (label_of t s n) ≡ true)) k h
        (λ _. (here, laws.flowing.itself _ (ok s n here)))
        (λ g fine. grow m laws (r.tables k) ok (call_at calls k) s n fine here (on g))

    -- while a party stands, its label flows to what it is later
    flows_later : (p : Party) (k j : ℕ) → p.since ≤ k → k ≤ j → j ≤ length calls → Stands r j p → present (r.tables k) p.sort p.number ≡ true
        → (present (r.tables j) p.sort p.number ≡ true) × (m.flow (label_at r k p) (label_at r j p) ≡ true)
    flows_later p k zero a b c s here =
        let same : k ≡ 0 = omega arith in
        subst (λ (x : ℕ). (present (r.tables x) p.sort p.number ≡ true) × (m.flow (label_at r k p) (label_at r x p) ≡ true)) same
        (here, laws.flowing.itself _ (labelled_at k (omega arith) p.sort p.number here))
    flows_later p k (suc j) a b c s here =
        let ih : k ≤ j → (present (r.tables j) p.sort p.number ≡ true) × (m.flow (label_at r k p) (label_at r j p) ≡ true)
        = λ le. flows_later p k j a le (omega arith) (stood_before j (suc j) p (omega arith) (omega arith) s) here in
        elim (cases_eq k (suc j)) [
          | inl same ↦ subst (λ (x : ℕ). (present (r.tables x) p.sort p.number ≡ true) × (m.flow (label_at r k p) (label_at r x p) ≡ true)) same
              (here, laws.flowing.itself _ (labelled_at k (omega arith) p.sort p.number here))
          | inr other ↦
              let le : k ≤ j = omega arith in
              let far = ih le in
              let more = grown_step j p.sort p.number c far.0 (s.unended j (omega arith) (omega arith)) in
              (more.0, laws.flowing.onward _ _ _ far.1 more.1)
        ]

    -- a party that begins is in the tables, and as long as it stands
    begun_has : (s : Sort) (n b : ℕ) → b ≤ length calls → Begun r s n b → present (r.tables b) s n ≡ true
    begun_has s n zero h e = subst (λ (t : Tables). present t s n ≡ true) (sym r.starts) e.1
    begun_has s n (suc k) h e =
        subst (λ (t : Tables). present t s n ≡ true) (sym (granted_next k e.0))
        (makes_has m laws (r.tables k) (sized_at k (omega arith)) (call_at calls k) s n (granted_fine k e.0) e.1)

    pub stands_has : (k : ℕ) (p : Party) → k ≤ length calls → Stands r k p → present (r.tables k) p.sort p.number ≡ true
    stands_has k p h s =
        (flows_later p p.since k (omega arith) s.before h s (begun_has p.sort p.number p.since (omega (arith, s.before)) s.begun)).0

    -- what one call carries flows to the label that its goal has later
    carried : (k j : ℕ) (p q : Party) → Carries r k p q → k ≤ j → j ≤ length calls → Stands r j q → m.flow (label_at r k p) (label_at r j q) ≡ true
    carried k j p q c lt le s = go c.goal c.along c.reached
      where
        fine : AllFine (asks m (r.tables k) (call_at calls k))
        fine = granted_fine k c.granted

        go : (g : Goal) → Among (carries (r.tables k) (call_at calls k)) p.sort p.number g → Reaches r k g q → m.flow (label_at r k p) (label_at r j q) ≡ true
        go (standing s' n) a e =
            let now : m.flow (label_at r k p) (label_of (r.tables k) s' n) ≡ true = carried_flows m laws (r.tables k) (call_at calls k) fine p.sort p.number (standing s' n) a in
            let here : m.flow (label_at r k p) (label_at r k q) ≡ true = subst₂ (λ (x : Sort) (y : ℕ). m.flow (label_at r k p) (label_of (r.tables k) x y) ≡ true) (sym e.0) (sym e.1) now in
            let later = flows_later q k j e.2.before (omega arith) le s (stands_has k q (omega arith) e.2) in
            laws.flowing.onward _ _ _ here later.1
        go (made s' n l) a e =
            let now : m.flow (label_at r k p) l ≡ true = carried_flows m laws (r.tables k) (call_at calls k) fine p.sort p.number (made s' n l) a in
            let made = goal_of m laws (r.tables k) (sized_at k (omega arith)) (call_at calls k) fine p.sort p.number s' n l a in
            let made' : (present (r.tables (suc k)) s' n ≡ true) × (label_of (r.tables (suc k)) s' n ≡ l) = subst (λ (t : Tables). (present t s' n ≡ true) × (label_of t s' n ≡ l)) (sym (granted_next k c.granted)) made in
            let mine : (present (r.tables (suc k)) q.sort q.number ≡ true) × (label_at r (suc k) q ≡ l) = subst₂ (λ (x : Sort) (y : ℕ). (present (r.tables (suc k)) x y ≡ true) × (label_of (r.tables (suc k)) x y ≡ l)) (sym e.0) (sym e.1) made' in
            let begun : q.since ≤ j = s.before in
            let later = flows_later q (suc k) j (omega (arith, e.2)) (omega (arith, e.2)) le s mine.0 in
            laws.flowing.onward _ _ _ (subst (λ (x : ℕ). m.flow (label_at r k p) x ≡ true) (sym mine.1) now) later.1

    -- so does what a chain carries
    chain_flows : (p : Party) (i : ℕ) {q : Party} {k : ℕ} → Chain r p i q k → (j : ℕ) → k ≤ j → j ≤ length calls → Stands r j q → m.flow (label_at r i p) (label_at r j q) ≡ true
    chain_flows p i (first {q} c) j lt le s = carried i j p q c lt le s
    chain_flows p i (onward {q} {w} {j = a} {k = b} chain up c) j lt le s =
        laws.flowing.onward _ _ _ (chain_flows p i chain b (omega arith) (omega arith) c.stood) (carried b j q w c lt le s)

    last_granted : (p : Party) (i : ℕ) {q : Party} {k : ℕ} → Chain r p i q k → k < length calls
    last_granted p i (first c) = c.granted.0
    last_granted p i (onward chain up c) = c.granted.0

    pub flows_on : FlowsOn r
    flows_on p q i k chain s = let last : k < length calls = last_granted p i chain in chain_flows p i chain (length calls) (omega arith) (omega arith) s
