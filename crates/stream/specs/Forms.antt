-- How a call is written, and when it is in form. Assumes nothing.
use Rattle.std.specs.Prelude.{ℕ, ◌+◌, ◌*◌, ◌/◌, ◌%◌, ◌^◌, ◌<◌, Bool, cond, not, List, [], ◌∷◌, ◌++◌, length, ◌==◌, slice_index_or}
use Rattle.records.specs.Records.{bit_of, field}
use Rattle.calls.specs.declared.types.Call.{Call}
use Rattle.calls.specs.declared.types.Call.TheVariants.{Enter, Launch, Leave, Read, Write, Create, Delete, Move, Raise, Mix, Unmix, Rights, Allow, Bar}

-- the number of a call
abbrev pub number_of : Call → ℕ
number_of (Enter user number label) = 1
number_of (Launch subject program number label) = 2
number_of (Leave subject) = 3
number_of (Read subject object) = 4
number_of (Write subject object) = 5
number_of (Create subject parent number kind label) = 6
number_of (Delete subject object) = 7
number_of (Move subject object parent) = 8
number_of (Raise subject object label) = 9
number_of (Mix subject object) = 10
number_of (Unmix subject object) = 11
number_of (Rights subject object user mask) = 12
number_of (Allow subject user program) = 13
number_of (Bar subject user program) = 14

-- the arguments of a call, in their order
abbrev pub arguments : Call → List ℕ
arguments (Enter user number label) = user ∷ number ∷ label ∷ []
arguments (Launch subject program number label) = subject ∷ program ∷ number ∷ label ∷ []
arguments (Leave subject) = subject ∷ []
arguments (Read subject object) = subject ∷ object ∷ []
arguments (Write subject object) = subject ∷ object ∷ []
arguments (Create subject parent number kind label) = subject ∷ parent ∷ number ∷ kind ∷ label ∷ []
arguments (Delete subject object) = subject ∷ object ∷ []
arguments (Move subject object parent) = subject ∷ object ∷ parent ∷ []
arguments (Raise subject object label) = subject ∷ object ∷ label ∷ []
arguments (Mix subject object) = subject ∷ object ∷ []
arguments (Unmix subject object) = subject ∷ object ∷ []
arguments (Rights subject object user mask) = subject ∷ object ∷ user ∷ mask ∷ []
arguments (Allow subject user program) = subject ∷ user ∷ program ∷ []
arguments (Bar subject user program) = subject ∷ user ∷ program ∷ []

-- how many bytes each argument takes, by the number of the call: eight for a label, else one; no other number is known
abbrev pub widths : ℕ → List ℕ
widths k =
    slice_index_or
    ([] ∷
    (1 ∷ 1 ∷ 8 ∷ []) ∷ (1 ∷ 1 ∷ 1 ∷ 8 ∷ []) ∷ (1 ∷ []) ∷ (1 ∷ 1 ∷ []) ∷ (1 ∷ 1 ∷ []) ∷ (1 ∷ 1 ∷ 1 ∷ 1 ∷ 8 ∷ []) ∷ (1 ∷ 1 ∷ []) ∷
    (1 ∷ 1 ∷ 1 ∷ []) ∷ (1 ∷ 1 ∷ 8 ∷ []) ∷ (1 ∷ 1 ∷ []) ∷ (1 ∷ 1 ∷ []) ∷ (1 ∷ 1 ∷ 1 ∷ 1 ∷ []) ∷ (1 ∷ 1 ∷ 1 ∷ []) ∷ (1 ∷ 1 ∷ 1 ∷ []) ∷ [])
    k []

-- bit i of the map stands for argument i where that is not zero
abbrev pub map_number : List ℕ → ℕ
map_number [] = 0
map_number (v ∷ vs) = bit_of 1 v + 2 * map_number vs

-- the arguments that are not zero, each in its bytes
abbrev pub body_of : List ℕ → List ℕ → List ℕ
body_of [] [] = []
body_of [] (v ∷ vs) = []
body_of (w ∷ ws) [] = []
body_of (w ∷ ws) (v ∷ vs) = field w v ++ body_of ws vs

-- the bytes of a call
abbrev pub encode : Call → List ℕ
encode x = map_number (arguments x) ∷ number_of x ∷ body_of (widths (number_of x)) (arguments x)

-- there is an argument for each width, and it fits
abbrev pub Fit : List ℕ → List ℕ → Type 0
Fit [] [] = Unit {0}
Fit [] (v ∷ vs) = ⊥
Fit (w ∷ ws) [] = ⊥
Fit (w ∷ ws) (v ∷ vs) = (v < 256 ^ w) × Fit ws vs

-- a label is below 2 ^ 64, and each other argument below 256
abbrev pub InForm : Call → Type 0
InForm x = Fit (widths (number_of x)) (arguments x)

-- bit 0 stands in a map
abbrev pub odd : ℕ → Bool
odd bits = not (bits % 2 == 0)

-- how many bytes the arguments in a map take
abbrev pub size_of : ℕ → List ℕ → ℕ
size_of bits [] = 0
size_of bits (w ∷ ws) = cond (odd bits) w 0 + size_of (bits / 2) ws

-- a call with the number k has arguments, and each bit of the map stands for one of them
pub record Known (k bits : ℕ) : Type 0 where
  pub number : 0 < length (widths k)
  pub map : bits < 2 ^ length (widths k)
