-- What is wrong with a call that cannot be read. Assumes nothing.
use Rattle.std.specs.Prelude.{◌≡◌, ℕ, ◌<◌, ◌≤◌, ◌⊎◌, List, ◌++◌, length, drop, ◌≢◌, slice_index}
use Rattle.calls.specs.declared.types.Call.{Call}
use Rattle.stream.specs.declared.faults.CallFault.{CallFault}
use Rattle.stream.specs.declared.faults.CallFault.TheVariants.{Bytes, Form}
use Rattle.stream.specs.Forms.{widths, encode, InForm, size_of, Known}

-- 11, cut short; 12, bad form
abbrev pub fault_number : CallFault → ℕ
fault_number (Bytes e) = 11
fault_number (Form q) = 12

-- where the call begins
abbrev pub fault_place : CallFault → ℕ
fault_place (Bytes e) = e.first
fault_place (Form q) = q

-- the bytes end inside the call in front: in its map and number, or behind a known map and number in its arguments
abbrev pub Cut : List ℕ → Type 0
Cut bs = (length bs < 2) ⊎ ((2 ≤ length bs) × Known (slice_index bs 1) (slice_index bs 0) × (length (drop 2 bs) < size_of (slice_index bs 0) (widths (slice_index bs 1))))

-- what is wrong with the call in front, which begins at the place p: it is cut short; or it is not, and no call in form is written there
abbrev pub Faulty : ℕ → List ℕ → CallFault → Type 0
Faulty p bs (Bytes e) = (e.first ≡ p) × Cut bs
Faulty p bs (Form q) = (q ≡ p) × (Cut bs → ⊥) × ((x : Call) (rest : List ℕ) → InForm x → bs ≢ encode x ++ rest)

-- What a call in form writes tells it from every other, whatever follows.
abbrev pub Unique : Type 0
Unique = (x y : Call) (r s : List ℕ) → InForm x → InForm y → encode x ++ r ≡ encode y ++ s → (x ≡ y) × (r ≡ s)

-- Bytes that a call in form begins are not cut short inside it.
abbrev pub Whole : Type 0
Whole = (x : Call) (rest : List ℕ) → InForm x → Cut (encode x ++ rest) → ⊥
