-- What a cursor has left, and what a read takes from it.
use Rattle.std.specs.Prelude.{◌≡◌, ℕ, zero, suc, ◌+◌, ◌/◌, ◌%◌, ◌^◌, ◌<◌, Bool, false, cond, List, [], ◌∷◌, ◌++◌, length, drop}
use Rattle.byte_cursor.specs.declared.cursors.Cursor.{Cursor}
use Rattle.byte_cursor.specs.declared.cursors.CursorFault.{CursorFault}

-- v in n bytes, little-endian
abbrev pub le : ℕ → ℕ → List ℕ
le zero v = []
le (suc n) v = v % 256 ∷ le n (v / 256)

-- the bytes of a field of n bytes: none where it is not there
abbrev pub field_if : ℕ → Bool → ℕ → List ℕ
field_if n there v = cond there (le n v) []

-- the bytes that a cursor has yet to read
abbrev pub left : Cursor → List ℕ
left c = drop c.place c.bytes.now

-- from a to b the bytes xs were read
pub record Took (a b : Cursor) (xs : List ℕ) : Type 0 where
  pub bytes : b.bytes.now ≡ a.bytes.now
  pub place : b.place ≡ a.place + length xs
  pub split : left a ≡ xs ++ left b

-- the n bytes xs were read, and the record is the same
pub record Part (n : ℕ) (a b : Cursor) (xs : List ℕ) : Type 0 where
  pub took : Took a b xs
  pub size : length xs ≡ n
  pub first : b.first ≡ a.first

-- v was read from n bytes, little-endian
pub record Number (n : ℕ) (a b : Cursor) (v : ℕ) : Type 0 where
  pub took : Took a b (le n v)
  pub first : b.first ≡ a.first
  pub fits : v < 256 ^ n

-- v was read from a field of n bytes if it is there, else it is 0
pub record Field (n : ℕ) (there : Bool) (a b : Cursor) (v : ℕ) : Type 0 where
  pub took : Took a b (field_if n there v)
  pub first : b.first ≡ a.first
  pub fits : v < 256 ^ n
  pub absent : there ≡ false → v ≡ 0

-- fewer than n bytes were left: nothing was read
pub record Short (n : ℕ) (a b : Cursor) (e : CursorFault) : Type 0 where
  pub same : b ≡ a
  pub few : length (left a) < n
  pub fault : e.first ≡ a.first
