use Rattle.std.proofs.Common.{◌≡◌}
use Rattle.std.proofs.lemmas.Result.{err_from_is_err_and}
use Rattle.records.specs.declared.forms.RecordFault.TheVariants.{Form}
use Rattle.records.proofs.Breaks.{object_rights}
use Rattle.records.proofs.Objects.{object_unwritten, object_unlike, object_read, part_long, part_short}
use Rattle.records.proofs.reads.object.Goals as goal

pub returns-in_err-part : goal.returns-in_err-part
returns-in_err-part c =
    object_rights c.args.head.map c.args.head.number c.from_residual-in_err-part.result _ c.in_err-part.field-0.0 c.from_residual-in_err-part.ensures.1 c.in_ok-parent.ensures c.in_ok-kind.ensures c.in_ok-owner.ensures c.in_ok-label.ensures c.in_ok-groups.ensures (part_short _ c.has.ensures c.in_err-part.ensures)

pub returns-in_err-rights : goal.returns-in_err-rights
returns-in_err-rights c =
    let p = err_from_is_err_and c.from_residual-in_err-rights.result c.from_residual-in_err-rights.ensures.1 in
    let unread = rw c.in_err-rights.ensures.ok_part at c.read_rights.ensures in
    let told = rw c.in_err-rights.ensures.ok_part at c.in_err-rights.ensures.value in
    let v : c.in_err-rights.field-0.0 ≡ Form c.first.result = cc told in
    rw (p.1, p.2, v)
    (object_unwritten c.args.head.map c.args.head.number c.in_ok-parent.ensures c.in_ok-kind.ensures c.in_ok-owner.ensures c.in_ok-label.ensures c.in_ok-groups.ensures c.in_ok-part.ensures.took (part_long _ c.has.ensures c.in_ok-part.ensures.size) c.first.result c.first.ensures c.in_ok-part.ensures.first unread)

pub returns-then-object_map-head : goal.returns-then-object_map-head
returns-then-object_map-head c =
    let read = rw c.in_ok-rights.ensures.ok_part at c.read_rights.ensures in
    object_unlike c.args.head.map c.args.head.number c.in_ok-parent.ensures c.in_ok-kind.ensures c.in_ok-owner.ensures c.in_ok-label.ensures c.in_ok-groups.ensures c.in_ok-part.ensures.took (part_long _ c.has.ensures c.in_ok-part.ensures.size) c.in_ok-rights.rights read.0 read.1 c.has-2.ensures c.object_map.ensures c.first-then-object_map-head.result c.first-then-object_map-head.ensures c.in_ok-part.ensures.first c.then-object_map-head.either

pub returns : goal.returns
returns c =
    let read = rw c.in_ok-rights.ensures.ok_part at c.read_rights.ensures in
    object_read c.args.head.map c.args.head.number c.in_ok-parent.ensures c.in_ok-kind.ensures c.in_ok-owner.ensures c.in_ok-label.ensures c.in_ok-groups.ensures c.in_ok-part.ensures.took (part_long _ c.has.ensures c.in_ok-part.ensures.size) c.in_ok-rights.rights read.0 read.1 c.has-2.ensures c.object_map.ensures c.if-object_map-head.false c.if-kind-gt-LAST_KIND.false
