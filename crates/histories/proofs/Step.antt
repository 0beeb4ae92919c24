-- What one granted call does to the parties, their labels and the sizes. Assumes nothing.
use Rattle.std.proofs.Common.{◌≡◌, ℕ, ◌<◌, true, false, ◌⊎◌, List, [], ◌∷◌, get_or, set, is_some, Some, None, Option, unwrap_or, sym, refl, ap, ◌∙◌, subst, subst₂, inl, inr, arith, length-set}
use lib.ListN.{length-map}
use Rattle.std.proofs.lemmas.Bool.{false≢true}
use Rattle.std.proofs.lemmas.List.{get_or-set_same}
use Rattle.std.specs.Option.{option_map}
use Rattle.labels.specs.Meaning.{Meaning, Lawful}
use Rattle.tables.specs.declared.types.User.{User}
use Rattle.tables.specs.declared.types.Object.{Object}
use Rattle.tables.specs.declared.types.Subject.{Subject}
use Rattle.tables.specs.declared.types.Tables.{Tables}
use Rattle.roll.specs.Formed.{Sized}
use Rattle.tables.specs.State.{subject, object, has_subject, has_object, blank_subject, blank_object}
use Rattle.tables.specs.Changes.{put_user, put_subject, put_object, unlisting}
use Rattle.tables.proofs.Puts.{at_put, gone}
use Rattle.calls.specs.declared.types.Call.{Call}
use Rattle.calls.specs.declared.types.Call.TheVariants.{Enter, Launch, Leave, Read, Write, Create, Delete, Move, Raise, Mix, Unmix, Rights, Allow, Bar}
use Rattle.calls.specs.Calls.{asks, AllFine}
use Rattle.calls.specs.Effects.{created}
use Rattle.histories.specs.Carries.{Sort, a_subject, an_object, present, label_of, Goal, standing, made, Flow, flows, carries, Among, Makes, Ends}
use Rattle.histories.specs.Faithful.{goal_label, AllFlow}
use Rattle.histories.proofs.Asked.{all_flow}
use Rattle.histories.proofs.Outcome.{outcome}

-- an object is no subject
pub no_object : an_object ≡ a_subject → ⊥
no_object e = let z : ◌≡◌ {A = ℕ} 0 1 = cc in omega arith

-- all labels in the tables are labels
abbrev pub LabelsStand : Meaning → Tables → Type 0
LabelsStand m t = (k : Sort) (n : ℕ) → present t k n ≡ true → m.label (label_of t k n) ≡ true

module _ (m : Meaning) (laws : Lawful m) (t : Tables) where
  -- each flow that a granted call carries along holds
  among_flow : (rest : List Flow) (k : Sort) (n : ℕ) (g : Goal) → AllFlow m t rest → Among rest k n g → m.flow (label_of t k n) (goal_label t g) ≡ true
  among_flow [] k n g all a = absurd a
  among_flow (flows k' n' g' ∷ rest) k n g all (inl e) = subst (λ (x : ℕ). m.flow x (goal_label t g) ≡ true) (sym (cc (e.0, e.1))) (subst (λ (y : Goal). m.flow (label_of t k' n') (goal_label t y) ≡ true) (sym e.2) all.0)
  among_flow (flows k' n' g' ∷ rest) k n g all (inr a) = among_flow rest k n g all.1 a

  pub carried_flows : (c : Call) → AllFine (asks m t c) → (k : Sort) (n : ℕ) (g : Goal) → Among (carries t c) k n g → m.flow (label_of t k n) (goal_label t g) ≡ true
  carried_flows c fine k n g a = among_flow (carries t c) k n g (all_flow m t c fine) a

  -- the party stands on, and its label flows to what it is then
  abbrev Grown : Tables → Sort → ℕ → Type 0
  Grown t' k n = (present t' k n ≡ true) × (m.flow (label_of t k n) (label_of t' k n) ≡ true)

  still : LabelsStand m t → (k : Sort) (n : ℕ) → present t k n ≡ true → Grown t k n
  still ok k n h = (h, laws.flowing.itself (label_of t k n) (ok k n h))

  grown_object : LabelsStand m t → (o n : ℕ) (v : Option Object) → has_object t n ≡ true
      → (o ≡ n → (is_some v ≡ true) × (m.flow (object t n).label (unwrap_or v blank_object).label ≡ true)) → Grown (put_object t o v) an_object n
  grown_object ok o n v h here =
      at_put (λ x. (is_some x ≡ true) × (m.flow (object t n).label (unwrap_or x blank_object).label ≡ true)) t.objects o n v here (still ok an_object n h)

  -- where the label stays
  grown_same : LabelsStand m t → (o n : ℕ) → has_object t n ≡ true → o ≡ n → m.flow (object t n).label (object t o).label ≡ true
  grown_same ok o n h e = subst (λ (y : ℕ). m.flow (object t n).label (object t y).label ≡ true) (sym e) (still ok an_object n h).1

  grown_subject : LabelsStand m t → (s n : ℕ) (v : Option Subject) → has_subject t n ≡ true → (s ≡ n → ⊥) → Grown (put_subject t s v) a_subject n
  grown_subject ok s n v h ne =
      at_put (λ x. (is_some x ≡ true) × (m.flow (subject t n).label (unwrap_or x blank_subject).label ≡ true)) t.subjects s n v (λ e. absurd (ne e)) (still ok a_subject n h)

  taken_free : (n x : ℕ) → has_subject t n ≡ false → has_subject t x ≡ true → n ≡ x → ⊥
  taken_free n x f h e = false≢true (sym f ∙ ap (has_subject t) e ∙ h)

  taken_free_object : (n x : ℕ) → has_object t n ≡ false → has_object t x ≡ true → n ≡ x → ⊥
  taken_free_object n x f h e = false≢true (sym f ∙ ap (has_object t) e ∙ h)

  -- every party that the call does not end
  pub grow : LabelsStand m t → (c : Call) (k : Sort) (n : ℕ) → AllFine (asks m t c) → present t k n ≡ true → (Ends c k n → ⊥) → Grown (outcome t c) k n
  grow ok (Enter u n l) a_subject x fine h on = grown_subject ok n x _ h (taken_free n x fine.1.1.0 h)
  grow ok (Enter u n l) an_object x fine h on = still ok an_object x h
  grow ok (Launch s o n l) a_subject x fine h on = grown_subject ok n x _ h (taken_free n x fine.1.1.1.0 h)
  grow ok (Launch s o n l) an_object x fine h on = still ok an_object x h
  grow ok (Leave s) a_subject x fine h on = grown_subject ok s x None h (λ e. on (refl, sym e))
  grow ok (Leave s) an_object x fine h on = still ok an_object x h
  grow ok (Read s o) k x fine h on = still ok k x h
  grow ok (Write s o) k x fine h on = still ok k x h
  grow ok (Create s p n kind l) a_subject x fine h on = still ok a_subject x h
  grow ok (Create s p n kind l) an_object x fine h on = grown_object ok n x _ h (λ e. absurd (taken_free_object n x fine.1.1.1.0 h e))
  grow ok (Delete s o) a_subject x fine h on = still ok a_subject x h
  grow ok (Delete s o) an_object x fine h on = grown_object ok o x None h (λ e. absurd (on (refl, sym e)))
  grow ok (Move s o q) a_subject x fine h on = still ok a_subject x h
  grow ok (Move s o q) an_object x fine h on = grown_object ok o x _ h (λ e. (refl, grown_same ok o x h e))
  grow ok (Raise s o l) a_subject x fine h on = still ok a_subject x h
  grow ok (Raise s o l) an_object x fine h on = grown_object ok o x _ h (λ e. (refl, subst (λ (y : ℕ). m.flow (object t y).label l ≡ true) e fine.1.1.1.1.1.0))
  grow ok (Mix s o) a_subject x fine h on = still ok a_subject x h
  grow ok (Mix s o) an_object x fine h on = grown_object ok o x _ h (λ e. (refl, grown_same ok o x h e))
  grow ok (Unmix s o) a_subject x fine h on = still ok a_subject x h
  grow ok (Unmix s o) an_object x fine h on = grown_object ok o x _ h (λ e. (refl, grown_same ok o x h e))
  grow ok (Rights s o u mask) a_subject x fine h on = still ok a_subject x h
  grow ok (Rights s o u mask) an_object x fine h on = grown_object ok o x _ h (λ e. (refl, grown_same ok o x h e))
  grow ok (Allow s u o) a_subject x fine h on = still ok a_subject x h
  grow ok (Allow s u o) an_object x fine h on = still ok an_object x h
  grow ok (Bar s u o) a_subject x fine h on = still ok a_subject x h
  grow ok (Bar s u o) an_object x fine h on = still ok an_object x h

  -- the party that a call makes has the label that the flow to it asked for
  abbrev GoalMade : Tables → Goal → Type 0
  GoalMade t' (standing k n) = Unit {0}
  GoalMade t' (made k n l) = (present t' k n ≡ true) × (label_of t' k n ≡ l)

  abbrev GoalsMade : Tables → List Flow → Type 0
  GoalsMade t' [] = Unit {0}
  GoalsMade t' (flows k n g ∷ rest) = GoalMade t' g × GoalsMade t' rest

  goal_made : (t' : Tables) (rest : List Flow) (k : Sort) (n : ℕ) (g : Goal) → GoalsMade t' rest → Among rest k n g → GoalMade t' g
  goal_made t' [] k n g all a = absurd a
  goal_made t' (flows k' n' g' ∷ rest) k n g all (inl e) = subst (GoalMade t') (sym e.2) all.0
  goal_made t' (flows k' n' g' ∷ rest) k n g all (inr a) = goal_made t' rest k n g all.1 a

  subject_made : Sized t → (n : ℕ) (v : Subject) → n < 32 → GoalMade (put_subject t n (Some v)) (made a_subject n v.label)
  subject_made size n v h =
      let at : get_or (set t.subjects n (Some v)) n None ≡ Some v = get_or-set_same t.subjects n (Some v) None (subst (λ (k : ℕ). n < k) (sym size.subjects) h) in
      (ap is_some at, ap (λ (x : Option Subject). (unwrap_or x blank_subject).label) at)

  object_made : Sized t → (n : ℕ) (v : Object) → n < 64 → GoalMade (put_object t n (Some v)) (made an_object n v.label)
  object_made size n v h =
      let at : get_or (set t.objects n (Some v)) n None ≡ Some v = get_or-set_same t.objects n (Some v) None (subst (λ (k : ℕ). n < k) (sym size.objects) h) in
      (ap is_some at, ap (λ (x : Option Object). (unwrap_or x blank_object).label) at)

  goals_made : Sized t → (c : Call) → AllFine (asks m t c) → GoalsMade (outcome t c) (carries t c)
  goals_made size (Enter u n l) fine = tt
  goals_made size (Launch s o n l) fine = let made = subject_made size n (record { user = (subject t s).user; label = l; program = Some o }) fine.1.1.0 in (made, (made, tt))
  goals_made size (Leave s) fine = tt
  goals_made size (Read s o) fine = (tt, tt)
  goals_made size (Write s o) fine = (tt, tt)
  goals_made size (Create s p n kind l) fine = (object_made size n (created (subject t s).user p kind l) fine.1.1.0, (tt, tt))
  goals_made size (Delete s o) fine = (tt, (tt, tt))
  goals_made size (Move s o q) fine = (tt, (tt, (tt, (tt, tt))))
  goals_made size (Raise s o l) fine = (tt, tt)
  goals_made size (Mix s o) fine = (tt, tt)
  goals_made size (Unmix s o) fine = (tt, tt)
  goals_made size (Rights s o u mask) fine = (tt, tt)
  goals_made size (Allow s u o) fine = tt
  goals_made size (Bar s u o) fine = tt

  pub goal_of : Sized t → (c : Call) → AllFine (asks m t c) → (k : Sort) (n : ℕ) (k' : Sort) (n' l : ℕ) → Among (carries t c) k n (made k' n' l) → (present (outcome t c) k' n' ≡ true) × (label_of (outcome t c) k' n' ≡ l)
  goal_of size c fine k n k' n' l a = goal_made (outcome t c) (carries t c) k n (made k' n' l) (goals_made size c fine) a

  -- the party that a call makes is in the tables
  pub makes_has : Sized t → (c : Call) (k : Sort) (x : ℕ) → AllFine (asks m t c) → Makes c k x → present (outcome t c) k x ≡ true
  makes_has size (Enter u n l) k x fine e = subst₂ (λ (k' : Sort) (x' : ℕ). present (outcome t (Enter u n l)) k' x' ≡ true) (sym e.0) (sym e.1) (subject_made size n (record { user = u; label = l; program = None }) fine.1.0).0
  makes_has size (Launch s o n l) k x fine e = subst₂ (λ (k' : Sort) (x' : ℕ). present (outcome t (Launch s o n l)) k' x' ≡ true) (sym e.0) (sym e.1) (subject_made size n (record { user = (subject t s).user; label = l; program = Some o }) fine.1.1.0).0
  makes_has size (Leave s) k x fine e = absurd e
  makes_has size (Read s o) k x fine e = absurd e
  makes_has size (Write s o) k x fine e = absurd e
  makes_has size (Create s p n kind l) k x fine e = subst₂ (λ (k' : Sort) (x' : ℕ). present (outcome t (Create s p n kind l)) k' x' ≡ true) (sym e.0) (sym e.1) (object_made size n (created (subject t s).user p kind l) fine.1.1.0).0
  makes_has size (Delete s o) k x fine e = absurd e
  makes_has size (Move s o q) k x fine e = absurd e
  makes_has size (Raise s o l) k x fine e = absurd e
  makes_has size (Mix s o) k x fine e = absurd e
  makes_has size (Unmix s o) k x fine e = absurd e
  makes_has size (Rights s o u mask) k x fine e = absurd e
  makes_has size (Allow s u o) k x fine e = absurd e
  makes_has size (Bar s u o) k x fine e = absurd e

  -- what stands after a call stood before it, and it did not end it, or the call made it
  abbrev Came : Call → Sort → ℕ → Type 0
  Came c k x = ((present t k x ≡ true) × (Ends c k x → ⊥)) ⊎ Makes c k x

  -- a write over an object that stands
  came_over : (o x : ℕ) (v : Object) → has_object t o ≡ true → has_object (put_object t o (Some v)) x ≡ true → has_object t x ≡ true
  came_over o x v there = at_put (λ y. is_some y ≡ true → has_object t x ≡ true) t.objects o x (Some v) (λ e h. subst (λ (y : ℕ). has_object t y ≡ true) e there) (λ h. h)

  pub came : (c : Call) (k : Sort) (x : ℕ) → AllFine (asks m t c) → present (outcome t c) k x ≡ true → Came c k x
  came (Enter u n l) a_subject x fine = at_put (λ y. is_some y ≡ true → Came (Enter u n l) a_subject x) t.subjects n x _ (λ e h. inr (refl, sym e)) (λ h. inl (h, λ z. z))
  came (Enter u n l) an_object x fine = λ h. inl (h, λ z. z)
  came (Launch s o n l) a_subject x fine = at_put (λ y. is_some y ≡ true → Came (Launch s o n l) a_subject x) t.subjects n x _ (λ e h. inr (refl, sym e)) (λ h. inl (h, λ z. z))
  came (Launch s o n l) an_object x fine = λ h. inl (h, λ z. z)
  came (Leave s) a_subject x fine = λ h. let g = gone t.subjects s x h in inl (g.1, λ z. g.0 (sym z.1))
  came (Leave s) an_object x fine = λ h. inl (h, λ z. no_object z.0)
  came (Read s o) k x fine = λ h. inl (h, λ z. z)
  came (Write s o) k x fine = λ h. inl (h, λ z. z)
  came (Create s p n kind l) a_subject x fine = λ h. inl (h, λ z. z)
  came (Create s p n kind l) an_object x fine = at_put (λ y. is_some y ≡ true → Came (Create s p n kind l) an_object x) t.objects n x _ (λ e h. inr (refl, sym e)) (λ h. inl (h, λ z. z))
  came (Delete s o) a_subject x fine = λ h. inl (h, λ z. no_object (sym z.0))
  came (Delete s o) an_object x fine = λ h. let g = gone t.objects o x h in inl (g.1, λ z. g.0 (sym z.1))
  came (Move s o q) a_subject x fine = λ h. inl (h, λ z. z)
  came (Move s o q) an_object x fine = λ h. inl (came_over o x _ fine.1.0 h, λ z. z)
  came (Raise s o l) a_subject x fine = λ h. inl (h, λ z. z)
  came (Raise s o l) an_object x fine = λ h. inl (came_over o x _ fine.1.0 h, λ z. z)
  came (Mix s o) a_subject x fine = λ h. inl (h, λ z. z)
  came (Mix s o) an_object x fine = λ h. inl (came_over o x _ fine.1.0 h, λ z. z)
  came (Unmix s o) a_subject x fine = λ h. inl (h, λ z. z)
  came (Unmix s o) an_object x fine = λ h. inl (came_over o x _ fine.1.0 h, λ z. z)
  came (Rights s o u mask) a_subject x fine = λ h. inl (h, λ z. z)
  came (Rights s o u mask) an_object x fine = λ h. inl (came_over o x _ fine.1.0 h, λ z. z)
  came (Allow s u o) a_subject x fine = λ h. inl (h, λ z. z)
  came (Allow s u o) an_object x fine = λ h. inl (h, λ z. z)
  came (Bar s u o) a_subject x fine = λ h. inl (h, λ z. z)
  came (Bar s u o) an_object x fine = λ h. inl (h, λ z. z)

  -- all labels stay labels
  labelled_object : LabelsStand m t → (o : ℕ) (v : Option Object) → (is_some v ≡ true → m.label (unwrap_or v blank_object).label ≡ true) → LabelsStand m (put_object t o v)
  labelled_object ok o v put a_subject n = ok a_subject n
  labelled_object ok o v put an_object n = at_put (λ x. is_some x ≡ true → m.label (unwrap_or x blank_object).label ≡ true) t.objects o n v (λ e. put) (ok an_object n)

  labelled_subject : LabelsStand m t → (s : ℕ) (v : Option Subject) → (is_some v ≡ true → m.label (unwrap_or v blank_subject).label ≡ true) → LabelsStand m (put_subject t s v)
  labelled_subject ok s v put an_object n = ok an_object n
  labelled_subject ok s v put a_subject n = at_put (λ x. is_some x ≡ true → m.label (unwrap_or x blank_subject).label ≡ true) t.subjects s n v (λ e. put) (ok a_subject n)

  -- the same labels
  labelled_as : (t' : Tables) → t'.subjects ≡ t.subjects → t'.objects ≡ t.objects → LabelsStand m t → LabelsStand m t'
  labelled_as t' es eo ok a_subject n = subst (λ (l : List (Option Subject)). is_some (get_or l n None) ≡ true → m.label (unwrap_or (get_or l n None) blank_subject).label ≡ true) (sym es) (ok a_subject n)
  labelled_as t' es eo ok an_object n = subst (λ (l : List (Option Object)). is_some (get_or l n None) ≡ true → m.label (unwrap_or (get_or l n None) blank_object).label ≡ true) (sym eo) (ok an_object n)

  pub labelled_on : LabelsStand m t → (c : Call) → AllFine (asks m t c) → LabelsStand m (outcome t c)
  labelled_on ok (Enter u n l) fine = labelled_subject ok n _ (λ _. fine.1.1.1.0)
  labelled_on ok (Launch s o n l) fine = labelled_subject ok n _ (λ _. fine.1.1.1.1.0)
  labelled_on ok (Leave s) fine = labelled_subject ok s None (λ h. absurd (false≢true h))
  labelled_on ok (Read s o) fine = ok
  labelled_on ok (Write s o) fine = ok
  labelled_on ok (Create s p n kind l) fine = labelled_object ok n _ (λ _. fine.1.1.1.1.0)
  labelled_on ok (Delete s o) fine = labelled_as' (labelled_object ok o None (λ h. absurd (false≢true h)))
    where
      labelled_as' : LabelsStand m (put_object t o None) → LabelsStand m (outcome t (Delete s o))
      labelled_as' h a_subject n = h a_subject n
      labelled_as' h an_object n = h an_object n
  labelled_on ok (Move s o q) fine = labelled_object ok o _ (λ _. ok an_object o fine.1.0)
  labelled_on ok (Raise s o l) fine = labelled_object ok o _ (λ _. fine.1.1.0)
  labelled_on ok (Mix s o) fine = labelled_object ok o _ (λ _. ok an_object o fine.1.0)
  labelled_on ok (Unmix s o) fine = labelled_object ok o _ (λ _. ok an_object o fine.1.0)
  labelled_on ok (Rights s o u mask) fine = labelled_object ok o _ (λ _. ok an_object o fine.1.0)
  labelled_on ok (Allow s u o) fine = labelled_as (outcome t (Allow s u o)) refl refl ok
  labelled_on ok (Bar s u o) fine = labelled_as (outcome t (Bar s u o)) refl refl ok

  -- the sizes stay
  sized_subject : Sized t → (n : ℕ) (v : Option Subject) → Sized (put_subject t n v)
  sized_subject size n v = record { users = size.users; groups = size.groups; subjects = length-set t.subjects n v ∙ size.subjects; objects = size.objects }

  sized_object : Sized t → (n : ℕ) (v : Option Object) → Sized (put_object t n v)
  sized_object size n v = record { users = size.users; groups = size.groups; subjects = size.subjects; objects = length-set t.objects n v ∙ size.objects }

  sized_user : Sized t → (n : ℕ) (v : Option User) → Sized (put_user t n v)
  sized_user size n v = record { users = length-set t.users n v ∙ size.users; groups = size.groups; subjects = size.subjects; objects = size.objects }

  pub sized_on : Sized t → (c : Call) → Sized (outcome t c)
  sized_on size (Enter u n l) = sized_subject size n _
  sized_on size (Launch s o n l) = sized_subject size n _
  sized_on size (Leave s) = sized_subject size s None
  sized_on size (Read s o) = size
  sized_on size (Write s o) = size
  sized_on size (Create s p n kind l) = sized_object size n _
  sized_on size (Delete s o) = record { users = length-map t.users (option_map (unlisting o)) ∙ size.users; groups = size.groups; subjects = size.subjects; objects = length-set t.objects o None ∙ size.objects }
  sized_on size (Move s o q) = sized_object size o _
  sized_on size (Raise s o l) = sized_object size o _
  sized_on size (Mix s o) = sized_object size o _
  sized_on size (Unmix s o) = sized_object size o _
  sized_on size (Rights s o u mask) = sized_object size o _
  sized_on size (Allow s u o) = sized_user size u _
  sized_on size (Bar s u o) = sized_user size u _
