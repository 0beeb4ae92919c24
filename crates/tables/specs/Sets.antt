-- Sets of small numbers as the bits of a number. Assumes nothing.
use Rattle.std.specs.Prelude.{◌≡◌, ℕ, true, ◌-◌, ◌<◌, not, ◌&&◌, ◌/◌, ◌%◌, ◌^◌, Bool, cond, ◌==◌, bit_or, bit_xor, nat_lt}
use Rattle.std.specs.Int.{trailing_zeros, w16}
use Rattle.tables.specs.declared.sets.Right.{Right}
use Rattle.tables.specs.declared.sets.Right.TheVariants.{Read, Write, Create, Delete, ChangeRights, Execute, WriteAttributes}

-- k is in the set n
abbrev pub has : ℕ → ℕ → Bool
has n k = n / 2 ^ k % 2 == 1

-- the set n with k
abbrev pub with_element : ℕ → ℕ → ℕ
with_element n k = bit_or n (2 ^ k)

-- the set n without k
abbrev pub without_element : ℕ → ℕ → ℕ
without_element n k = cond (has n k) (bit_xor n (2 ^ k)) n

-- a set of objects with k: a number past the objects changes nothing
abbrev pub inserted : ℕ → ℕ → ℕ
inserted n k = cond (nat_lt k 64) (with_element n k) n

-- how many of 16 numbers stand from the lowest of the set on
abbrev pub reach : ℕ → ℕ
reach n = 16 - trailing_zeros w16 n

-- g was taken out of the set n, and the set m of the others is left, which begins later
pub record Taken (n m g : ℕ) : Type 0 where
  pub member : has n g ≡ true
  pub left : (j : ℕ) → has m j ≡ (not (j == g) && has n j)
  pub later : reach m < reach n

-- the place of a right in a set of rights
abbrev pub bit_of : Right → ℕ
bit_of Read = 0
bit_of Write = 1
bit_of Create = 2
bit_of Delete = 3
bit_of ChangeRights = 4
bit_of Execute = 5
bit_of WriteAttributes = 6
