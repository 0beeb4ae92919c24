use Rattle.std.proofs.Common.{get_or, refl, arith}
use Rattle.std.proofs.lemmas.Result.{err_from_is_err_and}
use Rattle.records.specs.Records.{users, groups, objects}
use Rattle.records.proofs.Heads.{head_read, as_kind, unknown, failed, no_table, table_at, maps_at, user_only, group_only, object_only}
use Rattle.records.proofs.reads.read_record.Goals as goal
use Rattle.records.proofs.reads.read_record.Goals.{in_default-via-in-1+then-number-lt-ROOM+else-map-lt-MAPS, in_default-via-in-1+else-number-lt-ROOM, in_default-via-in-2+then-number-lt-ROOM-2+else-map-lt-MAPS-2, in_default-via-in-2+else-number-lt-ROOM-2, in_default-via-in-3+then-number-lt-ROOM-3+else-map-lt-MAPS-3, in_default-via-in-3+else-number-lt-ROOM-3, in_default-via-in_default-1}

pub returns-in_err-user-in-1 : goal.returns-in_err-user-in-1
returns-in_err-user-in-1 c =
    let p = err_from_is_err_and c.from_residual-in_err-user-in-1.result c.from_residual-in_err-user-in-1.ensures.1 in
    let t = c.in_ok-map.ensures in
    let h = as_kind c.in-1.is (head_read c.in_ok-map.field-0.now c.begin.ensures.nothing c.begin.ensures.first t.took t.size t.first) in
    rw (p.1, p.2) (failed h users c.if-number-lt-ROOM.true c.if-map-lt-MAPS.true refl (user_only _ _ _) c.in_err-user-in-1.field-0.0 c.in_err-user-in-1.ensures)

pub returns-in_err-group-in-2 : goal.returns-in_err-group-in-2
returns-in_err-group-in-2 c =
    let p = err_from_is_err_and c.from_residual-in_err-group-in-2.result c.from_residual-in_err-group-in-2.ensures.1 in
    let t = c.in_ok-map.ensures in
    let h = as_kind c.in-2.is (head_read c.in_ok-map.field-0.now c.begin.ensures.nothing c.begin.ensures.first t.took t.size t.first) in
    rw (p.1, p.2) (failed h groups c.if-number-lt-ROOM-2.true c.if-map-lt-MAPS-2.true refl (group_only _ _ _) c.in_err-group-in-2.field-0.0 c.in_err-group-in-2.ensures)

pub returns-in_err-object-in-3 : goal.returns-in_err-object-in-3
returns-in_err-object-in-3 c =
    let p = err_from_is_err_and c.from_residual-in_err-object-in-3.result c.from_residual-in_err-object-in-3.ensures.1 in
    let t = c.in_ok-map.ensures in
    let h = as_kind c.in-3.is (head_read c.in_ok-map.field-0.now c.begin.ensures.nothing c.begin.ensures.first t.took t.size t.first) in
    rw (p.1, p.2) (failed h objects c.if-number-lt-ROOM-3.true c.if-map-lt-MAPS-3.true refl (object_only _ _ _) c.in_err-object-in-3.field-0.0 c.in_err-object-in-3.ensures)

pub returns-in_default : goal.returns-in_default
returns-in_default c =
    let t = c.in_ok-map.ensures in
    let h = head_read c.in_ok-map.field-0.now c.begin.ensures.nothing c.begin.ensures.first t.took t.size t.first in
    unknown h
    (λ a b. elim c.in_default.branch [
      | in_default-via-in-1+then-number-lt-ROOM+else-map-lt-MAPS w ↦ omega (arith, w.if-map-lt-MAPS.false, maps_at (get_or c.in_ok-map.field-0.now 1 0) 1 w.in-1.is b)
      | in_default-via-in-1+else-number-lt-ROOM w ↦ omega (arith, w.if-number-lt-ROOM.false, table_at (get_or c.in_ok-map.field-0.now 1 0) 1 w.in-1.is a)
      | in_default-via-in-2+then-number-lt-ROOM-2+else-map-lt-MAPS-2 w ↦ omega (arith, w.if-map-lt-MAPS-2.false, maps_at (get_or c.in_ok-map.field-0.now 1 0) 2 w.in-2.is b)
      | in_default-via-in-2+else-number-lt-ROOM-2 w ↦ omega (arith, w.if-number-lt-ROOM-2.false, table_at (get_or c.in_ok-map.field-0.now 1 0) 2 w.in-2.is a)
      | in_default-via-in-3+then-number-lt-ROOM-3+else-map-lt-MAPS-3 w ↦ omega (arith, w.if-map-lt-MAPS-3.false, maps_at (get_or c.in_ok-map.field-0.now 1 0) 3 w.in-3.is b)
      | in_default-via-in-3+else-number-lt-ROOM-3 w ↦ omega (arith, w.if-number-lt-ROOM-3.false, table_at (get_or c.in_ok-map.field-0.now 1 0) 3 w.in-3.is a)
      | in_default-via-in_default-1 w ↦ omega (arith, a, no_table (get_or c.in_ok-map.field-0.now 1 0) (λ e. omega arith) (λ e. omega arith) (λ e. omega arith))
    ])
    c.first.result c.first.ensures
