use Rattle.std.proofs.Common.{map, sym, ap, ◌∙◌, arith}
use lib.ListN.{length-map, get_or-map}
use Rattle.std.proofs.lemmas.List.{ext_get_or}
use Rattle.roll.specs.Slots.{rights_of}
use Rattle.roll.proofs.slots.table_rights.Goals as goal

pub returns : goal.returns
returns c =
    let long = c.map.ensures.items.long in
    ext_get_or (rights_of 0) c.map.result (map rights_of c.args.bytes.now) (long ∙ sym (length-map c.args.bytes.now rights_of ∙ c.told-bytes))
    (λ i h. let w = c.map.ensures.items.at i 0 (rights_of 0) (omega (arith, h, long)) in ap rights_of w.2.met ∙ sym (get_or-map rights_of c.args.bytes.now i 0))
