-- A granted call keeps the tables sound, and every subject in its user's range. Assumes nothing.
use Rattle.std.proofs.Common.{◌≡◌, ℕ, zero, suc, ◌<◌, true, false, List, get_or, set, replicate, is_some, Some, None, Option, unwrap_or, sym, refl, ap, ◌∙◌, subst, subst₂, inl, inr}
use Rattle.std.proofs.lemmas.Bool.{true≢false, false≢true, cases_eq}
use Rattle.std.proofs.lemmas.List.{get_or-set_other}
use Rattle.labels.specs.Meaning.{Meaning, Lawful}
use Rattle.tables.specs.declared.sets.GroupSet.{GroupSet as Members}
use Rattle.tables.specs.declared.sets.Rights.{Rights as Set}
use Rattle.tables.specs.Sets.{has}
use Rattle.tables.proofs.Bitwise.{has_none}
use Rattle.tables.specs.declared.types.Kind.TheVariants.{Program}
use Rattle.tables.specs.declared.types.Object.{Object}
use Rattle.tables.specs.declared.types.Subject.{Subject}
use Rattle.tables.specs.declared.types.Tables.{Tables}
use Rattle.roll.specs.Formed.{Sized}
use Rattle.tables.specs.State.{user, subject, object, user_at, has_user, has_group, has_object, no_rights, blank_subject, blank_object}
use Rattle.tables.specs.Changes.{put_object, moved, relabelled, remixed, regranted}
use Rattle.tables.proofs.Puts.{at_put}
use Rattle.sound.specs.declared.clauses.Clause.TheVariants.{Groups, Labels, Tree as InTree, Owners, Lists, Administrator, Nesting, Mixed}
use Rattle.sound.specs.Sound.{Sound, Grouped, Labelled, Rooted, Owned, Administered, GroupsThere, HoldersThere, MixedRight}
use Rattle.sound.proofs.Firsts.{sound_from}
use Rattle.calls.specs.declared.types.Call.{Call}
use Rattle.calls.specs.declared.types.Call.TheVariants.{Enter, Launch, Leave, Read, Write, Create, Delete, Move, Raise, Mix, Unmix, Rights, Allow, Bar}
use Rattle.calls.specs.Calls.{asks, AllFine, Answer}
use Rattle.calls.specs.Effects.{created, after}
use Rattle.histories.specs.Carries.{a_subject, an_object, Ends}
use Rattle.histories.specs.Kept.{Peopled}
use Rattle.histories.proofs.Wholes.{Loaded, Whole}
use Rattle.histories.proofs.Outcome.{outcome, outcome_effect}
use Rattle.histories.proofs.Step.{LabelsStand, labelled_on, sized_on}
use Rattle.histories.proofs.Users.{Kept, users_kept, ranged_on, entry, entry_some}
use Rattle.histories.proofs.Nest.{Tree, Nest, shaped_edit, tree_shaped, nest_edit, tree_create, nest_create, tree_delete, nest_delete, tree_move, nest_move}

-- what sound tables say of each object by itself
record Proper (t : Tables) (x : Object) : Type 0 where
  groups : GroupsThere t x.groups.0
  owner : has_user t x.owner ≡ true
  righted : HoldersThere t x.rights
  mixed : MixedRight x

abbrev AllProper : Tables → List (Option Object) → Type 0
AllProper t os = (x : ℕ) → is_some (get_or os x None) ≡ true → Proper t (unwrap_or (get_or os x None) blank_object)

-- the labels of sound tables are labels
pub labels_stand : (m : Meaning) (t : Tables) → Sound m t → LabelsStand m t
labels_stand m t sound a_subject n = (sound Labels).subjects n
labels_stand m t sound an_object n = (sound Labels).objects n

-- a new object gives no right
none_set : (n u : ℕ) → (get_or (replicate n no_rights) u no_rights).0 ≡ 0
none_set zero u = refl
none_set (suc n) zero = refl
none_set (suc n) (suc u) = none_set n u

module _ (m : Meaning) (laws : Lawful m) (t : Tables) where
  -- no call changes the groups
  groups_same : (c : Call) → (outcome t c).groups ≡ t.groups
  groups_same (Enter u n l) = refl
  groups_same (Launch s o n l) = refl
  groups_same (Leave s) = refl
  groups_same (Read s o) = refl
  groups_same (Write s o) = refl
  groups_same (Create s p n kind l) = refl
  groups_same (Delete s o) = refl
  groups_same (Move s o q) = refl
  groups_same (Raise s o l) = refl
  groups_same (Mix s o) = refl
  groups_same (Unmix s o) = refl
  groups_same (Rights s o u mask) = refl
  groups_same (Allow s u o) = refl
  groups_same (Bar s u o) = refl

  -- each object by itself stays proper
  proper_put : AllProper t t.objects → (o : ℕ) (v : Object) → Proper t v → AllProper t (set t.objects o (Some v))
  proper_put standing o v p x = at_put (λ y. is_some y ≡ true → Proper t (unwrap_or y blank_object)) t.objects o x (Some v) (λ e h. p) (standing x)

  proper_on : AllProper t t.objects → Peopled t → (c : Call) → AllFine (asks m t c) → AllProper t (outcome t c).objects
  proper_on standing people (Enter u n l) fine = standing
  proper_on standing people (Launch s o n l) fine = standing
  proper_on standing people (Leave s) fine = standing
  proper_on standing people (Read s o) fine = standing
  proper_on standing people (Write s o) fine = standing
  proper_on standing people (Create s p n kind l) fine = proper_put standing n (created (subject t s).user p kind l) (record {
    groups = λ g h. absurd (false≢true (sym (has_none g) ∙ h));
    owner = people s fine.0;
    righted = λ u h. absurd (h (none_set 16 u));
    mixed = λ h. absurd (false≢true h);
  })
  proper_on standing people (Delete s o) fine = λ x. at_put (λ y. is_some y ≡ true → Proper t (unwrap_or y blank_object)) t.objects o x None (λ e h. absurd (false≢true h)) (standing x)
  proper_on standing people (Move s o q) fine = let p = standing o fine.1.0 in
      proper_put standing o (moved q (object t o)) (record { groups = p.groups; owner = p.owner; righted = p.righted; mixed = p.mixed })
  proper_on standing people (Raise s o l) fine = let p = standing o fine.1.0 in
      proper_put standing o (relabelled l (object t o)) (record { groups = p.groups; owner = p.owner; righted = p.righted; mixed = p.mixed })
  proper_on standing people (Mix s o) fine = let p = standing o fine.1.0 in
      proper_put standing o (remixed true (object t o)) (record { groups = p.groups; owner = p.owner; righted = p.righted; mixed = λ h. fine.1.1.0 })
  proper_on standing people (Unmix s o) fine = let p = standing o fine.1.0 in
      proper_put standing o (remixed false (object t o)) (record { groups = p.groups; owner = p.owner; righted = p.righted; mixed = λ h. fine.1.1.0 })
  proper_on standing people (Rights s o u mask) fine = let p = standing o fine.1.0 in
      proper_put standing o (regranted u (record { 0 = mask }) (object t o)) (record {
        groups = p.groups;
        owner = p.owner;
        righted = λ w h. elim (cases_eq w u) [
          | inl e ↦ subst (λ (z : ℕ). has_user t z ≡ true) (sym e) fine.1.1.0
          | inr ne ↦ p.righted w (λ z. h (ap (λ (r : Set). r.0) (get_or-set_other (object t o).rights u w (record { 0 = mask }) no_rights ne) ∙ z))
        ];
        mixed = p.mixed;
      })
  proper_on standing people (Allow s u o) fine = standing
  proper_on standing people (Bar s u o) fine = standing

  -- each subject acts for a user that exists
  peopled_put : Peopled t → (n s : ℕ) (v : Option Subject) → (is_some v ≡ true → has_user t (unwrap_or v blank_subject).user ≡ true)
      → is_some (get_or (set t.subjects n v) s None) ≡ true → has_user t (unwrap_or (get_or (set t.subjects n v) s None) blank_subject).user ≡ true
  peopled_put people n s v put = at_put (λ x. is_some x ≡ true → has_user t (unwrap_or x blank_subject).user ≡ true) t.subjects n s v (λ e. put) (people s)

  -- with the users as they were
  abbrev PeopledIn : List (Option Subject) → Type 0
  PeopledIn ss = (s : ℕ) → is_some (get_or ss s None) ≡ true → has_user t (unwrap_or (get_or ss s None) blank_subject).user ≡ true

  peopled_in : Peopled t → (c : Call) → AllFine (asks m t c) → PeopledIn (outcome t c).subjects
  peopled_in people (Enter u n l) fine = λ s. peopled_put people n s _ (λ _. fine.0)
  peopled_in people (Launch s o n l) fine = λ x. peopled_put people n x _ (λ _. people s fine.0)
  peopled_in people (Leave s) fine = λ x. peopled_put people s x None (λ h. absurd (false≢true h))
  peopled_in people (Read s o) fine = people
  peopled_in people (Write s o) fine = people
  peopled_in people (Create s p n kind l) fine = people
  peopled_in people (Delete s o) fine = people
  peopled_in people (Move s o q) fine = people
  peopled_in people (Raise s o l) fine = people
  peopled_in people (Mix s o) fine = people
  peopled_in people (Unmix s o) fine = people
  peopled_in people (Rights s o u mask) fine = people
  peopled_in people (Allow s u o) fine = people
  peopled_in people (Bar s u o) fine = people

  peopled_on : Peopled t → (c : Call) → AllFine (asks m t c) → Peopled (outcome t c)
  peopled_on people c fine s h = (users_kept m t c fine (subject (outcome t c) s).user).stays ∙ peopled_in people c fine s h

  -- the objects stay a tree
  tree_on : Sized t → Tree t.objects → (c : Call) → AllFine (asks m t c) → Tree (outcome t c).objects
  tree_on size tree (Enter u n l) fine = tree
  tree_on size tree (Launch s o n l) fine = tree
  tree_on size tree (Leave s) fine = tree
  tree_on size tree (Read s o) fine = tree
  tree_on size tree (Write s o) fine = tree
  tree_on size tree (Create s p n kind l) fine =
      tree_create t.objects n (created (subject t s).user p kind l) (subst (λ (k : ℕ). n < k) (sym size.objects) fine.1.1.0) fine.1.1.1.0 tree fine.1.0 fine.1.1.1.1.1.0
  tree_on size tree (Delete s o) fine = tree_delete t.objects o tree fine.1.1.1.1.1.0 fine.1.1.1.1.1.1.0
  tree_on size tree (Move s o q) fine =
      tree_move t.objects o q (moved q (object t o)) fine.1.0 fine.1.1.0 fine.1.1.1.0 refl refl refl refl fine.1.1.1.1.1.1.1.1.1.1.0 tree
  tree_on size tree (Raise s o l) fine = tree_shaped t.objects _ (shaped_edit t.objects o (relabelled l (object t o)) fine.1.0 refl refl) tree
  tree_on size tree (Mix s o) fine = tree_shaped t.objects _ (shaped_edit t.objects o (remixed true (object t o)) fine.1.0 refl refl) tree
  tree_on size tree (Unmix s o) fine = tree_shaped t.objects _ (shaped_edit t.objects o (remixed false (object t o)) fine.1.0 refl refl) tree
  tree_on size tree (Rights s o u mask) fine = tree_shaped t.objects _ (shaped_edit t.objects o (regranted u (record { 0 = mask }) (object t o)) fine.1.0 refl refl) tree
  tree_on size tree (Allow s u o) fine = tree
  tree_on size tree (Bar s u o) fine = tree

  -- each unmixed container goes on holding what lies under it
  nest_on : Sized t → LabelsStand m t → Tree t.objects → Nest m t.objects → (c : Call) → AllFine (asks m t c) → Nest m (outcome t c).objects
  nest_on size ok tree nest (Enter u n l) fine = nest
  nest_on size ok tree nest (Launch s o n l) fine = nest
  nest_on size ok tree nest (Leave s) fine = nest
  nest_on size ok tree nest (Read s o) fine = nest
  nest_on size ok tree nest (Write s o) fine = nest
  nest_on size ok tree nest (Create s p n kind l) fine =
      nest_create t.objects n (created (subject t s).user p kind l) (subst (λ (k : ℕ). n < k) (sym size.objects) fine.1.1.0) fine.1.1.1.0 tree fine.1.0 fine.1.1.1.1.1.0
      m nest fine.1.1.1.1.1.1.1.1.1.1.1.0
  nest_on size ok tree nest (Delete s o) fine = nest_delete t.objects o tree fine.1.1.1.1.1.0 fine.1.1.1.1.1.1.0 m nest
  nest_on size ok tree nest (Move s o q) fine =
      let nine = fine.1.1.1.1.1.1.1.1.1.1 in
      nest_move t.objects o q (moved q (object t o)) fine.1.0 fine.1.1.0 fine.1.1.1.0 refl refl refl refl nine.0 tree
      m nest nine.1.0 nine.1.1.0
  nest_on size ok tree nest (Raise s o l) fine =
      let nine = fine.1.1.1.1.1.1 in
      nest_edit m t.objects o (relabelled l (object t o)) fine.1.0 refl refl nest
      (λ _. laws.holding.itself l fine.1.1.0)
      (λ x b plain. nine.1.0 (fine.1.0, plain.1, plain.2) x b)
      nine.0
  nest_on size ok tree nest (Mix s o) fine =
      nest_edit m t.objects o (remixed true (object t o)) fine.1.0 refl refl nest
      (λ plain. absurd (true≢false plain.2))
      (λ x b plain. absurd (true≢false plain.2))
      (λ a b. nest a o b)
  nest_on size ok tree nest (Unmix s o) fine =
      nest_edit m t.objects o (remixed false (object t o)) fine.1.0 refl refl nest
      (λ _. laws.holding.itself (object t o).label (ok an_object o fine.1.0))
      (λ x b plain. fine.1.1.1.1.1.0 x b)
      (λ a b. nest a o b)
  nest_on size ok tree nest (Rights s o u mask) fine =
      nest_edit m t.objects o (regranted u (record { 0 = mask }) (object t o)) fine.1.0 refl refl nest
      (λ _. laws.holding.itself (object t o).label (ok an_object o fine.1.0))
      (λ x b plain. nest o x b (fine.1.0, plain.1, plain.2))
      (λ a b. nest a o b)
  nest_on size ok tree nest (Allow s u o) fine = nest
  nest_on size ok tree nest (Bar s u o) fine = nest

  -- an object that a call does not end keeps its kind
  abbrev Kinded : Tables → ℕ → Type 0
  Kinded t' x = (has_object t' x ≡ true) × ((object t' x).kind ≡ (object t x).kind)

  kinded_put : (o x : ℕ) (v : Option Object) → has_object t x ≡ true → (o ≡ x → (is_some v ≡ true) × ((unwrap_or v blank_object).kind ≡ (object t x).kind)) → Kinded (put_object t o v) x
  kinded_put o x v h put = at_put (λ y. (is_some y ≡ true) × ((unwrap_or y blank_object).kind ≡ (object t x).kind)) t.objects o x v put (h, refl)

  kinded_same : (o x : ℕ) → o ≡ x → (object t o).kind ≡ (object t x).kind
  kinded_same o x e = ap (λ (w : ℕ). (object t w).kind) e

  kinded_on : (c : Call) → AllFine (asks m t c) → (x : ℕ) → has_object t x ≡ true → (Ends c an_object x → ⊥) → Kinded (outcome t c) x
  kinded_on (Enter u n l) fine x h on = (h, refl)
  kinded_on (Launch s o n l) fine x h on = (h, refl)
  kinded_on (Leave s) fine x h on = (h, refl)
  kinded_on (Read s o) fine x h on = (h, refl)
  kinded_on (Write s o) fine x h on = (h, refl)
  kinded_on (Create s p n kind l) fine x h on = kinded_put n x _ h (λ e. absurd (false≢true (sym fine.1.1.1.0 ∙ ap (has_object t) e ∙ h)))
  kinded_on (Delete s o) fine x h on = kinded_put o x None h (λ e. absurd (on (refl, sym e)))
  kinded_on (Move s o q) fine x h on = kinded_put o x _ h (λ e. (refl, kinded_same o x e))
  kinded_on (Raise s o l) fine x h on = kinded_put o x _ h (λ e. (refl, kinded_same o x e))
  kinded_on (Mix s o) fine x h on = kinded_put o x _ h (λ e. (refl, kinded_same o x e))
  kinded_on (Unmix s o) fine x h on = kinded_put o x _ h (λ e. (refl, kinded_same o x e))
  kinded_on (Rights s o u mask) fine x h on = kinded_put o x _ h (λ e. (refl, kinded_same o x e))
  kinded_on (Allow s u o) fine x h on = (h, refl)
  kinded_on (Bar s u o) fine x h on = (h, refl)

  -- allow lists go on naming programs
  lists_on : Sound m t → (c : Call) → AllFine (asks m t c) → (u o : ℕ) → has (user (outcome t c) u).allowed.0 o ≡ true → (has_object (outcome t c) o ≡ true) × ((object (outcome t c) o).kind ≡ Program)
  lists_on sound c fine u o b = elim (entry m t c fine u o b) [
    | inl was ↦
        (let there = sound Lists u (entry_some m t (user_at t u) o was.0) o was.0 in
        let now = kinded_on c fine o there.0 was.1 in
        (now.0, now.1 ∙ there.1))
    | inr made ↦ subst (λ (d : Call). (has_object (outcome t d) o ≡ true) × ((object (outcome t d) o).kind ≡ Program)) (sym made.1) (made.2, made.3)
  ]

-- whole tables are whole after a granted call
whole_on : (m : Meaning) (laws : Lawful m) (t : Tables) (c : Call) → Whole m t → AllFine (asks m t c) → Whole m (outcome t c)
whole_on m laws t c w fine = record {
  sized = sized_on m laws t w.sized c;
  peopled = peopled_on m laws t w.peopled c fine;
  ranged = ranged_on m t w.ranged c fine;
  sound = sound_from m (outcome t c) grouped labelled rooted owned
      (λ u h o b. lists_on m laws t sound c fine u o b)
      administered
      (nest_on m laws t w.sized ok old_tree (sound Nesting) c fine)
      (λ o h. (proper o h).mixed);
}
  where
    sound : Sound m t
    sound = w.sound

    kept : (u : ℕ) → Kept (user_at t u) (user_at (outcome t c) u)
    kept u = users_kept m t c fine u

    -- a user that stands stood before
    stood : (u : ℕ) → has_user (outcome t c) u ≡ true → has_user t u ≡ true
    stood u h = sym (kept u).stays ∙ h

    old_tree : Tree t.objects
    old_tree = record {
      root = ((sound InTree).root.0, (sound InTree).root.1, (sound InTree).own);
      parents = λ x h. ((sound InTree).placed x h).parent;
      rooted = λ x h. ((sound InTree).placed x h).way;
    }

    tree : Tree (outcome t c).objects
    tree = tree_on m laws t w.sized old_tree c fine

    ok : LabelsStand m t
    ok = labels_stand m t sound

    labels : LabelsStand m (outcome t c)
    labels = labelled_on m laws t ok c fine

    group : (g : ℕ) → has_group t g ≡ true → has_group (outcome t c) g ≡ true
    group g h = subst (λ (l : List (Option Set)). is_some (get_or l g None) ≡ true) (sym (groups_same m laws t c)) h

    proper : (o : ℕ) → has_object (outcome t c) o ≡ true → Proper t (object (outcome t c) o)
    proper =
        proper_on m laws t (λ x h. record { groups = (sound Groups).objects x h; owner = (sound Owners).owners x h; righted = (sound Owners).holders x h; mixed = sound Mixed x h }) w.peopled c fine

    grouped : Grouped (outcome t c)
    grouped = record {
      users = λ u h g b. group g ((sound Groups).users u (stood u h) g (subst (λ (x : Members). has x.0 g ≡ true) (kept u).groups b));
      objects = λ o h g b. group g ((proper o h).groups g b);
    }

    labelled : Labelled m (outcome t c)
    labelled = record {
      users = λ u h. subst₂ (λ (x y : ℕ). (m.label x ≡ true) × (m.label y ≡ true) × (m.flow x y ≡ true)) (sym (kept u).floor) (sym (kept u).top) ((sound Labels).users u (stood u h));
      subjects = λ s. labels a_subject s;
      objects = λ o. labels an_object o;
    }

    rooted : Rooted (outcome t c)
    rooted = record {
      root = (tree.root.0, tree.root.1);
      own = tree.root.2;
      placed = λ o h. record { parent = tree.parents o h; way = tree.rooted o h };
    }

    owned : Owned (outcome t c)
    owned = record {
      owners = λ o h. (kept (object (outcome t c) o).owner).stays ∙ (proper o h).owner;
      holders = λ o h u r. (kept u).stays ∙ (proper o h).righted u r;
    }

    administered : Administered (outcome t c)
    administered =
        let standing = sound Administrator in
        (standing.0, (kept standing.0).stays ∙ standing.1, (kept standing.0).admin ∙ standing.2)

-- so does every answer: a refused call changes nothing
pub whole_after : (m : Meaning) → Lawful m → (t : Tables) (c : Call) (a : ℕ) → Whole m t → Answer m t c a → Whole m (after t c a)
whole_after m laws t c zero w fine = subst (Whole m) (outcome_effect m t c fine) (whole_on m laws t c w fine)
whole_after m laws t c (suc n) w ans = w

-- what a load leaves is whole, for there is no subject
pub whole_loaded : (m : Meaning) (t : Tables) → Loaded m t → Whole m t
whole_loaded m t l = record {
  sized = l.sized;
  sound = l.sound;
  peopled = λ s h. absurd (false≢true (sym (l.alone s) ∙ h));
  ranged = λ s h. absurd (false≢true (sym (l.alone s) ∙ h));
}
