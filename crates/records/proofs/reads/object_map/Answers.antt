use Rattle.records.proofs.Maps.{object_map}
use Rattle.records.proofs.reads.object_map.Goals as goal

pub returns : goal.returns
returns c = object_map c.args.o.now c.marks_of.ensures c.from.ensures c.from-2.ensures c.from-3.ensures c.from-4.ensures c.from-5.ensures c.from-6.ensures c.from-7.ensures
