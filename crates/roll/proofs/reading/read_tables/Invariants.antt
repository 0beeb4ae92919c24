use Rattle.std.proofs.Common.{List, length}
use Rattle.records.specs.declared.forms.Record.{Record}
use Rattle.byte_cursor.specs.Bytes.{left}
use Rattle.roll.proofs.Loads.{Sofar}
use Rattle.roll.proofs.Order.{last_rank, LastSmall}
use Rattle.roll.proofs.reading.read_tables.Given as goal

abbrev pub invariant-loop-c : goal.invariant-loop-c
invariant-loop-c l = (rs : List Record) × Sofar l.bytes l.c (last_rank l.last) l.tables rs × LastSmall l.last

abbrev pub decreases-loop-c : goal.decreases-loop-c
decreases-loop-c l = length (left l.c)
