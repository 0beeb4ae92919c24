use Rattle.std.proofs.Common.{◌≡◌, map, get_or, sym, ◌∙◌, arith, rules}
use lib.ListN.{length-map, get_or-map}
use Rattle.std.proofs.lemmas.List.{ext_get_or}
use Rattle.roll.specs.Slots.{rights_of, rights_byte}
use Rattle.saving.proofs.entries.rights_bytes.Goals as goal

pub returns-clause-is : goal.returns-clause-is
returns-clause-is c =
    let long = c.map.ensures.items.long in
    ext_get_or 0 c.map.result (map rights_byte c.args.rights.now) (long ∙ sym (length-map c.args.rights.now rights_byte ∙ c.told-rights))
    (λ i h.
    let w = c.map.ensures.items.at i (rights_of 0) 0 (omega (arith, h, long)) in
    let met : get_or c.map.result i 0 ≡ rights_byte (get_or c.args.rights.now i (rights_of 0)) = search rules in
    met ∙ sym (get_or-map rights_byte c.args.rights.now i (rights_of 0)))
