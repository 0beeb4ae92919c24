-- What each sink has after it took bytes from the state a to the state b.
use Rattle.std.specs.Prelude.{◌≡◌, ℕ, ◌+◌, ◌-◌, ◌^◌, ◌≤◌, min, List, length}
use Rattle.saving.specs.declared.sinks.Counter.{Counter}
use Rattle.saving.specs.declared.sinks.Writer.{Writer}
use Rattle.saving.specs.Saves.{wrote}

-- the bytes xs were counted, up to the largest number
abbrev pub Counted : Counter → List ℕ → Counter → Type 0
Counted a xs b = min b.count (2 ^ 64 - 1) ≡ min (a.count + length xs) (2 ^ 64 - 1)

-- the buffer is the same, and the bytes xs stand in it where they fit
pub record Written (a : Writer) (xs : List ℕ) (b : Writer) : Type 0 where
  pub held : b.bytes.ghost_name ≡ a.bytes.ghost_name
  pub long : length b.bytes.now ≡ length a.bytes.now
  pub bytes : a.place + length xs ≤ length a.bytes.now → b.bytes.now ≡ wrote a.bytes.now a.place xs
  pub place : a.place + length xs ≤ length a.bytes.now → b.place ≡ a.place + length xs
