-- Which labels containers have to hold, and the labels that subjects may have. Assumes nothing.
use Rattle.std.specs.Prelude.{◌≡◌, ℕ, true, false}
use Rattle.labels.specs.Meaning.{Meaning}
use Rattle.tables.specs.declared.types.Kind.TheVariants.{Container}
use Rattle.tables.specs.declared.types.User.{User}
use Rattle.tables.specs.declared.types.Tables.{Tables}
use Rattle.tables.specs.State.{object, has_object}
use Rattle.tables.specs.Ways.{Under, Above}

-- a is a container, and not a mixed one
abbrev pub Unmixed : Tables → ℕ → Type 0
Unmixed t a = (has_object t a ≡ true) × ((object t a).kind ≡ Container) × ((object t a).mixed ≡ false)

-- the label of a holds the label l
abbrev pub Holds : Meaning → Tables → ℕ → ℕ → Type 0
Holds m t a l = m.hold (object t a).label l ≡ true

-- each unmixed container that is p or above it holds l
abbrev pub HeldAbove : Meaning → Tables → ℕ → ℕ → Type 0
HeldAbove m t p l = (a : ℕ) → Above t p a → Unmixed t a → Holds m t a l

-- l holds the label of x, if x lies under o
abbrev pub HoldsOne : Meaning → Tables → ℕ → ℕ → ℕ → Type 0
HoldsOne m t o l x = Under t x o → m.hold l (object t x).label ≡ true

-- l holds the label of every object under o
abbrev pub HoldsUnder : Meaning → Tables → ℕ → ℕ → Type 0
HoldsUnder m t o l = (x : ℕ) → HoldsOne m t o l x

-- each unmixed container over o holds l
abbrev pub HeldOverAt : Meaning → Tables → ℕ → ℕ → Type 0
HeldOverAt m t o l = (a : ℕ) → Under t o a → Unmixed t a → Holds m t a l

-- each unmixed container over x holds its label
abbrev pub HeldOver : Meaning → Tables → ℕ → Type 0
HeldOver m t x = HeldOverAt m t x (object t x).label

-- each unmixed container holds the label of every object under it, at any depth
abbrev pub Nested : Meaning → Tables → Type 0
Nested m t = (a x : ℕ) → Under t x a → Unmixed t a → Holds m t a (object t x).label

-- l is in the range of user u: its floor flows to l, and l flows to its top
abbrev pub InRange : Meaning → User → ℕ → Type 0
InRange m u l = (m.flow u.floor l ≡ true) × (m.flow l u.top ≡ true)
