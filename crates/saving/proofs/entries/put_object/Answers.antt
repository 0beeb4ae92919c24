use Rattle.std.proofs.Common.{[], ◌∷◌, ◌++◌, ap}
use Rattle.records.specs.Records.{field, objects}
use Rattle.records.specs.Rights.{rights_body}
use Rattle.saving.proofs.Taking.{took_both, took_as}
use Rattle.saving.proofs.entries.put_object.Goals as goal

pub returns : goal.returns
returns g c =
    let o = c.args.o.now in
    let P = g.S.Sink.puts in
    let f₅ = rights_body o.rights in
    let f₄ = field 2 o.groups ++ f₅ in
    let f₃ = field 8 o.label ++ f₄ in
    let f₂ = field 1 o.owner ++ f₃ in
    let f₁ = field 1 o.kind ++ f₂ in
    took_as P _ _ (ap (λ m. m ∷ 3 ∷ o.number ∷ objects.body o) c.object_map.ensures)
    (took_both P (c.object_map.result ∷ 3 ∷ o.number ∷ []) (objects.body o) c.put.ensures
    (took_both P (field 1 o.parent) f₁ c.put_number.ensures
    (took_both P (field 1 o.kind) f₂ c.put_number-2.ensures
    (took_both P (field 1 o.owner) f₃ c.put_number-3.ensures
    (took_both P (field 8 o.label) f₄ c.put_number-4.ensures
    (took_both P (field 2 o.groups) f₅ c.put_number-5.ensures c.put_rights.ensures))))))
