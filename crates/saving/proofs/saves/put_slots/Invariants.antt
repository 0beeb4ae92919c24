use Rattle.std.proofs.Common.{◌*◌, ◌≤◌, length, take}
use Rattle.saving.specs.Takes.{Took}
use Rattle.saving.proofs.Walking.{slot_bytes}
use Rattle.saving.proofs.saves.put_slots.Given as goal

abbrev pub invariant-loop-i : goal.invariant-loop-i
invariant-loop-i g l =
    Took g.S.Sink.puts l.initial.out (slot_bytes g.T.Entry.written (take l.i l.xs)) l.out
    × (length (slot_bytes g.T.Entry.written (take l.i l.xs)) ≤ g.T.Entry.most * l.i)
