use Rattle.saving.proofs.Sizes.{object_short}
use Rattle.saving.proofs.entries.ObjectEntry.record.Goals as goal

pub returns-clause-short : goal.returns-clause-short
returns-clause-short c =
    let o = c.args.self.now in
    object_short (record {
      number = c.args.number;
      parent = o.parent;
      kind = c.from.result;
      owner = o.owner;
      label = o.label;
      mixed = o.mixed;
      groups = o.groups.0;
      rights = c.rights_bytes.result;
    }) c.rights_bytes.ensures.long
