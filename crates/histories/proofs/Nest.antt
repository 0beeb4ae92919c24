-- The tree of objects, and what its unmixed containers hold, under each kind of edit. Assumes nothing.
use Rattle.std.proofs.Common.{◌≡◌, ℕ, ◌<◌, true, false, ◌⊎◌, length, get_or, set, is_some, Some, None, Option, unwrap_or, sym, refl, ap, ◌∙◌, subst, subst₂, inl, inr}
use Rattle.std.proofs.lemmas.Bool.{false≢true, cases_eq}
use Rattle.std.proofs.lemmas.List.{get_or-set_same, get_or-set_other}
use Rattle.labels.specs.Meaning.{Meaning}
use Rattle.tables.specs.declared.types.Kind.TheVariants.{Container}
use Rattle.tables.specs.declared.types.Object.{Object}
use Rattle.tables.specs.State.{blank_object}
use Rattle.tables.specs.Ways.{Below, child, deeper}
use Rattle.tables.proofs.Puts.{at_put, at_place, within, gone}
use Rattle.tables.proofs.Climb.{Objects, below_here, below_target}

-- there is an object x
abbrev here : Objects → ℕ → Type 0
here os x = is_some (get_or os x None) ≡ true

-- what a slot holds, or else a blank
abbrev ob : Option Object → Object
ob y = unwrap_or y blank_object

abbrev at : Objects → ℕ → Object
at os x = ob (get_or os x None)

-- an unmixed container
abbrev Plain : Option Object → Type 0
Plain y = (is_some y ≡ true) × ((ob y).kind ≡ Container) × ((ob y).mixed ≡ false)

-- the root is a container and its own parent, every parent is a container, and parents lead to the root
pub record Tree (os : Objects) : Type 0 where
  pub root : here os 0 × ((at os 0).kind ≡ Container) × ((at os 0).parent ≡ 0)
  pub parents : (x : ℕ) → here os x → here os (at os x).parent × ((at os (at os x).parent).kind ≡ Container)
  pub rooted : (x : ℕ) → here os x → (x ≡ 0) ⊎ Below os x 0

-- each unmixed container holds the label of every object under it
abbrev pub Nest : Meaning → Objects → Type 0
Nest m os = (a x : ℕ) → Below os x a → Plain (get_or os a None) → m.hold (at os a).label (at os x).label ≡ true

-- a write elsewhere
put_other : (os : Objects) (i x : ℕ) (v : Option Object) → (i ≡ x → ⊥) → get_or (set os i v) x None ≡ get_or os x None
put_other os i x v ne = get_or-set_other os i x v None (λ e. ne (sym e))

-- what another lies under is there
target : {os : Objects} → Tree os → {x a : ℕ} → Below os x a → here os a
target tree b = below_target (λ y h. (tree.parents y h).0) b

-- an edit in place: the same places, kinds and parents
abbrev Shaped : Objects → Objects → Type 0
Shaped os os' = (x : ℕ) → (is_some (get_or os' x None) ≡ is_some (get_or os x None)) × ((at os' x).kind ≡ (at os x).kind) × ((at os' x).parent ≡ (at os x).parent)

pub shaped_edit : (os : Objects) (o : ℕ) (v : Object) → here os o → v.kind ≡ (at os o).kind → v.parent ≡ (at os o).parent → Shaped os (set os o (Some v))
shaped_edit os o v h k p x =
    at_put (λ y. (is_some y ≡ is_some (get_or os x None)) × ((ob y).kind ≡ (at os x).kind) × ((ob y).parent ≡ (at os x).parent)) os o x (Some v)
    (λ e. subst (λ (w : ℕ). (true ≡ is_some (get_or os w None)) × (v.kind ≡ (at os w).kind) × (v.parent ≡ (at os w).parent)) e (sym h, k, p))
    (refl, refl, refl)

shaped_back : (os os' : Objects) → Shaped os os' → Shaped os' os
shaped_back os os' s x = (sym (s x).0, sym (s x).1, sym (s x).2)

below_shaped : (os os' : Objects) → Shaped os os' → {x a : ℕ} → Below os x a → Below os' x a
below_shaped os os' s (child {x} h nz e) = child ((s x).0 ∙ h) nz ((s x).2 ∙ e)
below_shaped os os' s (deeper {x} h nz e b) = deeper ((s x).0 ∙ h) nz ((s x).2 ∙ e) (below_shaped os os' s b)

pub tree_shaped : (os os' : Objects) → Shaped os os' → Tree os → Tree os'
tree_shaped os os' s tree = record {
  root = ((s 0).0 ∙ tree.root.0, (s 0).1 ∙ tree.root.1, (s 0).2 ∙ tree.root.2);
  parents = λ x h.
      let p = tree.parents x (sym (s x).0 ∙ h) in
      subst (λ (w : ℕ). here os' w × ((at os' w).kind ≡ Container)) (sym (s x).2) ((s (at os x).parent).0 ∙ p.0, (s (at os x).parent).1 ∙ p.1);
  rooted = λ x h. elim (tree.rooted x (sym (s x).0 ∙ h)) [ inl e ↦ inl e | inr b ↦ inr (below_shaped os os' s b) ];
}

-- an edit in place whose label is held above, and holds what lies under it, if it is an unmixed container
module _ (m : Meaning) where
  pub nest_edit : (os : Objects) (o : ℕ) (v : Object) → here os o → v.kind ≡ (at os o).kind → v.parent ≡ (at os o).parent → Nest m os
      → (Plain (Some v) → m.hold v.label v.label ≡ true)
      → ((x : ℕ) → Below os x o → Plain (Some v) → m.hold v.label (at os x).label ≡ true)
      → ((a : ℕ) → Below os o a → Plain (get_or os a None) → m.hold (at os a).label v.label ≡ true)
      → Nest m (set os o (Some v))
  nest_edit os o v h k p standing both upper lower a x b' =
      let b : Below os x a = below_shaped (set os o (Some v)) os (shaped_back os (set os o (Some v)) (shaped_edit os o v h k p)) b' in
      let inside : o < length os = within os o h in
      at_place (λ ya. Plain ya → m.hold (ob ya).label (at (set os o (Some v)) x).label ≡ true) os o a (Some v) inside
      (λ oa plain. at_place (λ yx. m.hold v.label (ob yx).label ≡ true) os o x (Some v) inside
      (λ ox. both plain)
      (λ nx. upper x (subst (λ (w : ℕ). Below os x w) (sym oa) b) plain))
      (λ na plain. at_place (λ yx. m.hold (at os a).label (ob yx).label ≡ true) os o x (Some v) inside
      (λ ox. lower a (subst (λ (w : ℕ). Below os w a) (sym ox) b) plain)
      (λ nx. standing a x b plain))

-- a new object
module _ (os : Objects) (n : ℕ) (v : Object) (room : n < length os) (free : is_some (get_or os n None) ≡ false) (tree : Tree os) (up : here os v.parent) (box : (at os v.parent).kind ≡ Container) where
  abbrev grown : Objects
  grown = set os n (Some v)

  not_new : (x : ℕ) → here os x → n ≡ x → ⊥
  not_new x h e = false≢true (sym free ∙ ap (λ (w : ℕ). is_some (get_or os w None)) e ∙ h)

  as_was : (x : ℕ) → here os x → get_or grown x None ≡ get_or os x None
  as_was x h = put_other os n x (Some v) (not_new x h)

  as_new : (x : ℕ) → n ≡ x → get_or grown x None ≡ Some v
  as_new x e = subst (λ (w : ℕ). get_or grown w None ≡ Some v) e (get_or-set_same os n (Some v) None room)

  here_was : (x : ℕ) → here os x → here grown x
  here_was x h = ap is_some (as_was x h) ∙ h

  was_here : (x : ℕ) → here grown x → (n ≡ x → ⊥) → here os x
  was_here x h ne = ap is_some (sym (put_other os n x (Some v) ne)) ∙ h

  below_grown : {x a : ℕ} → Below os x a → Below grown x a
  below_grown (child {x} h nz e) = child (here_was x h) nz (ap (λ (y : Option Object). (ob y).parent) (as_was x h) ∙ e)
  below_grown (deeper {x} h nz e b) = deeper (here_was x h) nz (ap (λ (y : Option Object). (ob y).parent) (as_was x h) ∙ e) (below_grown b)

  not_root : (x : ℕ) → n ≡ x → x ≡ 0 → ⊥
  not_root x e z = not_new 0 tree.root.0 (e ∙ z)

  pub tree_create : Tree grown
  tree_create = record {
    root = (here_was 0 tree.root.0, ap (λ (y : Option Object). (ob y).kind) (as_was 0 tree.root.0) ∙ tree.root.1, ap (λ (y : Option Object). (ob y).parent) (as_was 0 tree.root.0) ∙ tree.root.2);
    parents = λ x h. elim (cases_eq n x) [
      | inl e ↦ parent_of x v.parent (ap (λ (y : Option Object). (ob y).parent) (as_new x e)) up box
      | inr ne ↦ (let w = was_here x h ne in let p = tree.parents x w in parent_of x (at os x).parent (ap (λ (y : Option Object). (ob y).parent) (as_was x w)) p.0 p.1)
    ];
    rooted = λ x h. elim (cases_eq n x) [
      | inl e ↦ elim (tree.rooted v.parent up) [
        | inl z ↦ inr (child h (not_root x e) (ap (λ (y : Option Object). (ob y).parent) (as_new x e) ∙ z))
        | inr b ↦ inr (deeper h (not_root x e) (ap (λ (y : Option Object). (ob y).parent) (as_new x e)) (below_grown b))
      ]
      | inr ne ↦ elim (tree.rooted x (was_here x h ne)) [ inl z ↦ inl z | inr b ↦ inr (below_grown b) ]
    ];
  }
    where
      parent_of : (x p : ℕ) → (at grown x).parent ≡ p → here os p → (at os p).kind ≡ Container → here grown (at grown x).parent × ((at grown (at grown x).parent).kind ≡ Container)
      parent_of x p e h k = subst (λ (w : ℕ). here grown w × ((at grown w).kind ≡ Container)) (sym e) (here_was p h, ap (λ (y : Option Object). (ob y).kind) (as_was p h) ∙ k)

  -- the new object's parent, or over it
  abbrev Over : ℕ → Type 0
  Over a = (a ≡ v.parent) ⊎ Below os v.parent a

  -- what lies under a now lay under it, or is new
  below_created : {x a : ℕ} → Below grown x a → Below os x a ⊎ ((n ≡ x) × Over a)
  below_created (child {x} h nz e) = elim (cases_eq n x) [
    | inl made ↦ inr (made, inl (sym e ∙ ap (λ (y : Option Object). (ob y).parent) (as_new x made)))
    | inr ne ↦ (let w = was_here x h ne in inl (child w nz (ap (λ (y : Option Object). (ob y).parent) (sym (as_was x w)) ∙ e)))
  ]
  below_created {a = a} (deeper {x} {q} h nz e b) = step (below_created b)
    where
      step : Below os q a ⊎ ((n ≡ q) × Over a) → Below os x a ⊎ ((n ≡ x) × Over a)
      step ih = elim (cases_eq n x) [
        | inl made ↦
            (let pq : v.parent ≡ q = sym (ap (λ (y : Option Object). (ob y).parent) (as_new x made)) ∙ e in
            elim ih [
              | inl was ↦ inr (made, inr (subst (λ (w : ℕ). Below os w a) (sym pq) was))
              | inr bad ↦ absurd (not_new q (subst (here os) pq up) bad.0)
            ])
        | inr ne ↦
            (let w = was_here x h ne in
            let pq : (at os x).parent ≡ q = ap (λ (y : Option Object). (ob y).parent) (sym (as_was x w)) ∙ e in
            elim ih [
              | inl was ↦ inl (deeper w nz pq was)
              | inr bad ↦ absurd (not_new q (subst (here os) pq (tree.parents x w).0) bad.0)
            ])
      ]

  pub nest_create : (m : Meaning) → Nest m os → ((a : ℕ) → Over a → Plain (get_or os a None) → m.hold (at os a).label v.label ≡ true) → Nest m grown
  nest_create m standing held a x b = elim (below_created b) [
    | inl was ↦ subst₂ (λ (ya yx : Option Object). Plain ya → m.hold (ob ya).label (ob yx).label ≡ true) (sym (as_was a (target tree was))) (sym (as_was x (below_here was))) (standing a x was)
    | inr made ↦ subst₂ (λ (ya yx : Option Object). Plain ya → m.hold (ob ya).label (ob yx).label ≡ true) (sym (as_was a (over_here a made.1))) (sym (as_new x made.0)) (held a made.1)
  ]
    where
      over_here : (a : ℕ) → Over a → here os a
      over_here a (inl e) = subst (here os) (sym e) up
      over_here a (inr c) = target tree c

-- an object less
module _ (os : Objects) (o : ℕ) (tree : Tree os) (nz : o ≡ 0 → ⊥) (bare : (x : ℕ) → here os x → (at os x).parent ≡ o → ⊥) where
  abbrev less : Objects
  less = set os o None

  same : (x : ℕ) → (o ≡ x → ⊥) → get_or less x None ≡ get_or os x None
  same x ne = put_other os o x None ne

  here_less : (x : ℕ) → (o ≡ x → ⊥) → here os x → here less x
  here_less x ne h = ap is_some (same x ne) ∙ h

  not_parent : (x : ℕ) → here os x → o ≡ (at os x).parent → ⊥
  not_parent x h e = bare x h (sym e)

  below_less : {x a : ℕ} → Below less x a → Below os x a
  below_less (child {x} h z e) = let g = gone os o x h in child g.1 z (ap (λ (y : Option Object). (ob y).parent) (sym (same x g.0)) ∙ e)
  below_less (deeper {x} h z e b) = let g = gone os o x h in deeper g.1 z (ap (λ (y : Option Object). (ob y).parent) (sym (same x g.0)) ∙ e) (below_less b)

  less_below : {x a : ℕ} → (o ≡ x → ⊥) → Below os x a → Below less x a
  less_below ne (child {x} h z e) = child (here_less x ne h) z (ap (λ (y : Option Object). (ob y).parent) (same x ne) ∙ e)
  less_below ne (deeper {x} {q} h z e b) =
      deeper (here_less x ne h) z (ap (λ (y : Option Object). (ob y).parent) (same x ne) ∙ e) (less_below (λ oq. not_parent x h (oq ∙ sym e)) b)

  pub tree_delete : Tree less
  tree_delete = record {
    root = (here_less 0 nz tree.root.0, ap (λ (y : Option Object). (ob y).kind) (same 0 nz) ∙ tree.root.1, ap (λ (y : Option Object). (ob y).parent) (same 0 nz) ∙ tree.root.2);
    parents = λ x h.
        let g = gone os o x h in
        let p = tree.parents x g.1 in
        let np : o ≡ (at os x).parent → ⊥ = not_parent x g.1 in
        subst (λ (w : ℕ). here less w × ((at less w).kind ≡ Container)) (sym (ap (λ (y : Option Object). (ob y).parent) (same x g.0)))
        (here_less (at os x).parent np p.0, ap (λ (y : Option Object). (ob y).kind) (same (at os x).parent np) ∙ p.1);
    rooted = λ x h. let g = gone os o x h in elim (tree.rooted x g.1) [ inl z ↦ inl z | inr b ↦ inr (less_below g.0 b) ];
  }

  pub nest_delete : (m : Meaning) → Nest m os → Nest m less
  nest_delete m standing a x b plain =
      let ga = gone os o a plain.0 in
      let gx = gone os o x (below_here b) in
      subst₂ (λ (ya yx : Option Object). Plain ya → m.hold (ob ya).label (ob yx).label ≡ true) (sym (same a ga.0)) (sym (same x gx.0)) (standing a x (below_less b)) plain

-- an object under another parent
module _ (os : Objects) (o q : ℕ) (v : Object) (ho : here os o) (hq : here os q) (box : (at os q).kind ≡ Container)
    (vp : v.parent ≡ q) (vk : v.kind ≡ (at os o).kind) (vl : v.label ≡ (at os o).label) (vm : v.mixed ≡ (at os o).mixed)
    (apart : ((o ≡ q) ⊎ Below os q o) → ⊥) (tree : Tree os) where
  abbrev turned : Objects
  turned = set os o (Some v)

  -- all but the parent is as it was
  all_but : (x : ℕ) → (is_some (get_or turned x None) ≡ is_some (get_or os x None)) × ((at turned x).kind ≡ (at os x).kind) × ((at turned x).label ≡ (at os x).label) × ((at turned x).mixed ≡ (at os x).mixed)
  all_but x =
      at_put (λ y. (is_some y ≡ is_some (get_or os x None)) × ((ob y).kind ≡ (at os x).kind) × ((ob y).label ≡ (at os x).label) × ((ob y).mixed ≡ (at os x).mixed)) os o x (Some v)
      (λ e. subst (λ (w : ℕ). (true ≡ is_some (get_or os w None)) × (v.kind ≡ (at os w).kind) × (v.label ≡ (at os w).label) × (v.mixed ≡ (at os w).mixed)) e (sym ho, vk, vl, vm))
      (refl, refl, refl, refl)

  hence : (x : ℕ) → here os x → here turned x
  hence x h = (all_but x).0 ∙ h

  whence : (x : ℕ) → here turned x → here os x
  whence x h = sym (all_but x).0 ∙ h

  parent_new : (x : ℕ) → o ≡ x → (at turned x).parent ≡ q
  parent_new x e = subst (λ (w : ℕ). (at turned w).parent ≡ q) e (ap (λ (y : Option Object). (ob y).parent) (get_or-set_same os o (Some v) None (within os o ho)) ∙ vp)

  parent_old : (x : ℕ) → (o ≡ x → ⊥) → (at turned x).parent ≡ (at os x).parent
  parent_old x ne = ap (λ (y : Option Object). (ob y).parent) (put_other os o x (Some v) ne)

  -- what moves is not the root
  no_root : o ≡ 0 → ⊥
  no_root z = elim (tree.rooted q hq) [ inl e ↦ apart (inl (z ∙ sym e)) | inr b ↦ apart (inr (subst (λ (w : ℕ). Below os q w) (sym z) b)) ]

  -- in what moved
  abbrev In : ℕ → Type 0
  In x = (o ≡ x) ⊎ Below os x o

  -- the new parent, or over it
  abbrev Out : ℕ → Type 0
  Out a = (a ≡ q) ⊎ Below os q a

  in_up : (x y : ℕ) → here os x → (x ≡ 0 → ⊥) → (at os x).parent ≡ y → In y → Below os x o
  in_up x y h z e (inl oy) = child h z (e ∙ sym oy)
  in_up x y h z e (inr b) = deeper h z e b

  -- what lies under a now lay under it, or is in what moved, and a is the new parent or over it
  below_moved : {x a : ℕ} → Below turned x a → Below os x a ⊎ (In x × Out a)
  below_moved (child {x} h z e) = elim (cases_eq o x) [
    | inl ox ↦ inr (inl ox, inl (sym e ∙ parent_new x ox))
    | inr ne ↦ inl (child (whence x h) z (sym (parent_old x ne) ∙ e))
  ]
  below_moved {a = a} (deeper {x} {q = y} h z e b) = step (below_moved b)
    where
      step : Below os y a ⊎ (In y × Out a) → Below os x a ⊎ (In x × Out a)
      step ih = elim (cases_eq o x) [
        | inl ox ↦
            (let yq : y ≡ q = sym e ∙ parent_new x ox in
            elim ih [
              | inl was ↦ inr (inl ox, inr (subst (λ (w : ℕ). Below os w a) yq was))
              | inr bad ↦ absurd (apart (subst In yq bad.0))
            ])
        | inr ne ↦
            (let py : (at os x).parent ≡ y = sym (parent_old x ne) ∙ e in
            elim ih [
              | inl was ↦ inl (deeper (whence x h) z py was)
              | inr moved ↦ inr (inr (in_up x y (whence x h) z py moved.0), moved.1)
            ])
      ]

  -- a way to the root that keeps clear of o stays
  clear : {x : ℕ} → Below os x 0 → (In x → ⊥) → Below turned x 0
  clear (child {x} h z e) off = child (hence x h) z (parent_old x (λ ox. off (inl ox)) ∙ e)
  clear (deeper {x} {q = y} h z e b) off = deeper (hence x h) z (parent_old x (λ ox. off (inl ox)) ∙ e) (clear b (λ y-in. off (inr (in_up x y h z e y-in))))

  o_rooted : Below turned o 0
  o_rooted = elim (tree.rooted q hq) [
    | inl e ↦ child (hence o ho) no_root (parent_new o refl ∙ e)
    | inr b ↦ deeper (hence o ho) no_root (parent_new o refl) (clear b apart)
  ]

  -- every way to the root leads there still
  rooted_on : {x : ℕ} → Below os x 0 → Below turned x 0
  rooted_on (child {x} h z e) = elim (cases_eq o x) [
    | inl ox ↦ subst (λ (w : ℕ). Below turned w 0) ox o_rooted
    | inr ne ↦ child (hence x h) z (parent_old x ne ∙ e)
  ]
  rooted_on (deeper {x} {q = y} h z e b) = step (rooted_on b)
    where
      step : Below turned y 0 → Below turned x 0
      step ih = elim (cases_eq o x) [
        | inl ox ↦ subst (λ (w : ℕ). Below turned w 0) ox o_rooted
        | inr ne ↦ deeper (hence x h) z (parent_old x ne ∙ e) ih
      ]

  pub tree_move : Tree turned
  tree_move = record {
    root = (hence 0 tree.root.0, (all_but 0).1 ∙ tree.root.1, parent_old 0 no_root ∙ tree.root.2);
    parents = λ x h. elim (cases_eq o x) [
      | inl ox ↦ parent_of x q (parent_new x ox) hq box
      | inr ne ↦ (let p = tree.parents x (whence x h) in parent_of x (at os x).parent (parent_old x ne) p.0 p.1)
    ];
    rooted = λ x h. elim (tree.rooted x (whence x h)) [ inl z ↦ inl z | inr b ↦ inr (rooted_on b) ];
  }
    where
      parent_of : (x p : ℕ) → (at turned x).parent ≡ p → here os p → (at os p).kind ≡ Container → here turned (at turned x).parent × ((at turned (at turned x).parent).kind ≡ Container)
      parent_of x p e h k = subst (λ (w : ℕ). here turned w × ((at turned w).kind ≡ Container)) (sym e) (hence p h, (all_but p).1 ∙ k)

  pub nest_move : (m : Meaning) → Nest m os
      → ((a : ℕ) → Out a → Plain (get_or os a None) → m.hold (at os a).label (at os o).label ≡ true)
      → ((x : ℕ) → Below os x o → (a : ℕ) → Out a → Plain (get_or os a None) → m.hold (at os a).label (at os x).label ≡ true)
      → Nest m turned
  nest_move m standing top rest a x b plain =
      let was : Plain (get_or os a None) = (whence a plain.0, sym (all_but a).1 ∙ plain.1, sym (all_but a).3 ∙ plain.2) in
      let holds : m.hold (at os a).label (at os x).label ≡ true = elim (below_moved b) [
        | inl c ↦ standing a x c was
        | inr c ↦ from x c.0 c.1 was
      ] in
      subst₂ (λ (la lx : ℕ). m.hold la lx ≡ true) (sym (all_but a).2) (sym (all_but x).2) holds
    where
      from : (x : ℕ) → In x → Out a → Plain (get_or os a None) → m.hold (at os a).label (at os x).label ≡ true
      from x (inl ox) out was = subst (λ (w : ℕ). m.hold (at os a).label (at os w).label ≡ true) ox (top a out was)
      from x (inr c) out was = rest x c a out was
