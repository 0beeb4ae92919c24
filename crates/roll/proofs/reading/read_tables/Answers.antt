use Rattle.std.proofs.Common.{length, [], ◌∷◌, ◌++◌, sym, arith}
use Rattle.std.proofs.lemmas.Bool.{eqb-false}
use Rattle.byte_cursor.specs.Bytes.{left}
use Rattle.roll.proofs.Loads.{sofar_more, sofar_order}
use Rattle.roll.proofs.Order.{placed, small, above, behind}
use Rattle.roll.proofs.reading.read_tables.Goals as goal

pub returns-then-is_not_behind : goal.returns-then-is_not_behind
returns-then-is_not_behind c =
    let x = c.in_ok-record.record in
    let t = c.in_ok-record.ensures in
    let ne = eqb-false (length (left c.loop-c.c)) 0 (sym c.loop-c-test.ensures) in
    let le = behind x t.0 c.from.ensures c.loop-c.last c.loop-c.invariant.2 (sym c.if-is_not_behind.ensures) in
    sofar_order c.loop-c.invariant.1 x c.place-first.result (omega (arith, ne)) c.place-first.ensures t.0 t.1 le

pub loop-c-preserved : goal.loop-c-preserved
loop-c-preserved c =
    let x = c.in_ok-record.record in
    let t = c.in_ok-record.ensures in
    let lt = above x t.0 c.from.ensures c.loop-c.last c.loop-c.invariant.2 (sym c.if-is_not_behind.ensures) in
    (c.loop-c.invariant.0 ++ x ∷ [], simp (placed x t.0 c.from.ensures, c.put.ensures) (sofar_more c.loop-c.invariant.1 x t.0 t.1 lt), small x t.0 c.from.ensures)
