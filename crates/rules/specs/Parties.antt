-- The subject and the object that a call names, and what lets the one alter the other. Assumes nothing.
use Rattle.std.specs.Prelude.{◌≡◌, ℕ, true, ◌⊎◌, List, [], ◌∷◌, Ok, Err, Result}
use Rattle.labels.specs.Meaning.{Meaning}
use Rattle.tables.specs.declared.sets.Right.{Right}
use Rattle.tables.specs.declared.types.Kind.{Kind}
use Rattle.tables.specs.declared.types.Subject.{Subject}
use Rattle.tables.specs.declared.types.Object.{Object}
use Rattle.tables.specs.declared.types.Tables.{Tables}
use Rattle.tables.specs.Rights.{HasRight}
use Rattle.tables.specs.State.{subject, object, has_subject, has_object}
use Rattle.calls.specs.Calls.{Ask, knows_subject, knows_object, of_kind, right, flow}
use Rattle.calls.specs.declared.types.Refusal.{Refusal}
use Rattle.calls.specs.declared.types.Refusal.TheVariants.{NoRight, WrongWay}

-- subject s is there, and is x, and object o is there, and is y
pub record Found (t : Tables) (s o : ℕ) (x : Subject) (y : Object) : Type 0 where
  pub maker_there : has_subject t s ≡ true
  pub thing_there : has_object t o ≡ true
  pub maker : subject t s ≡ x
  pub thing : object t o ≡ y

-- one of the two is not there
abbrev pub Missing : Tables → ℕ → ℕ → Type 0
Missing t s o = has_subject t s ≡ true → has_object t o ≡ true → ⊥

-- the label of x flows to that of y
abbrev pub FlowsTo : Meaning → Subject → Object → Type 0
FlowsTo m x y = m.flow x.label y.label ≡ true

-- x may alter y: its user has the right r on it, and the labels flow; or else the first of the two that fails is the refusal
abbrev pub Alters : Meaning → Tables → Subject → Object → Right → Result (Unit {0}) Refusal → Type 0
Alters m t x y r (Ok u) = HasRight t x.user y r × FlowsTo m x y
Alters m t x y r (Err e) = ((e ≡ NoRight) × (HasRight t x.user y r → ⊥)) ⊎ ((e ≡ WrongWay) × HasRight t x.user y r × (FlowsTo m x y → ⊥))

-- what a call asks by which subject s alters object o, of the kind k, by the right r
abbrev pub altering : Meaning → Tables → ℕ → ℕ → Kind → Right → List Ask
altering m t s o k r =
    knows_subject t s ∷ knows_object t o
    ∷ of_kind t o k
    ∷ right t s o r
    ∷ flow m (subject t s).label (object t o).label ∷ []
