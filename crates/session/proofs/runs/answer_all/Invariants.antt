use Rattle.std.proofs.Common.{◌≡◌, length}
use Rattle.byte_cursor.specs.Bytes.{left}
use Rattle.session.proofs.Goings.{Going}
use Rattle.session.proofs.runs.answer_all.Given as goal

abbrev pub invariant-loop-next : goal.invariant-loop-next
invariant-loop-next g l =
    Going (g.S.Scheme.meaning l.initial.guard.scheme) l.initial.guard.tables l.calls l.c l.answered l.initial.answers l.answers l.guard.tables
    × (l.guard.scheme ≡ l.initial.guard.scheme)

abbrev pub decreases-loop-next : goal.decreases-loop-next
decreases-loop-next g l = length (left l.c)
