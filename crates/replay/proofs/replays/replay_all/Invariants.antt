use Rattle.std.proofs.Common.{List, ℕ, ◌++◌, length, string_bytes}
use Rattle.byte_cursor.specs.Bytes.{left}
use Rattle.replay.specs.Cases.{Replayed}
use Rattle.replay.proofs.replays.replay_all.Given as goal

-- whatever is told of what is left, told behind what was told, is told of all the cases
abbrev pub invariant-loop-c : goal.invariant-loop-c
invariant-loop-c l = (more : List ℕ) → Replayed (left l.c) more → Replayed l.cases (string_bytes l.out ++ more)

abbrev pub decreases-loop-c : goal.decreases-loop-c
decreases-loop-c l = length (left l.c)
