-- How the rights of the users are written.
use Rattle.std.specs.Prelude.{◌≡◌, ℕ, ◌+◌, ◌*◌, ◌<◌, cond, List, [], ◌∷◌, ◌++◌, length, ◌==◌, count_ones, slice_index}
use Rattle.std.specs.List.{AllByRecursion}
use Rattle.byte_cursor.specs.Bytes.{le}

-- the map of the users with rights: user 0 is the lowest bit; m stands above the list's users
abbrev pub marks_over : List ℕ → ℕ → ℕ
marks_over [] m = m
marks_over (b ∷ bs) m = cond (b == 0) 0 1 + 2 * marks_over bs m

abbrev pub marks_number : List ℕ → ℕ
marks_number bs = marks_over bs 0

-- the rights that are not zero
abbrev pub bytes_of : List ℕ → List ℕ
bytes_of [] = []
bytes_of (b ∷ bs) = cond (b == 0) (bytes_of bs) (b ∷ bytes_of bs)

-- sixteen users, and bit 7 is clear
pub record RightsForm (rs : List ℕ) : Type 0 where
  pub users : length rs ≡ 16
  pub clear : AllByRecursion (λ b. b < 128) rs

abbrev pub rights_body : List ℕ → List ℕ
rights_body rs = cond (marks_number rs == 0) [] (le 2 (marks_number rs) ++ bytes_of rs)

-- rs are the rights with that map and those bytes
pub record Marked (marks : ℕ) (bytes rs : List ℕ) : Type 0 where
  pub form : RightsForm rs
  pub marks_are : marks_number rs ≡ marks
  pub bytes_are : bytes_of rs ≡ bytes

-- how many bytes a rights field takes in front: its map, and a byte for each user in it
abbrev pub rights_size : List ℕ → ℕ
rights_size bs = 2 + count_ones (slice_index bs 0 + slice_index bs 1 * 256)
