-- How long records are.
use Rattle.std.proofs.Common.{◌≡◌, ℕ, zero, suc, ◌/◌, ◌≤◌, true, false, cond, eqb, List, [], ◌∷◌, ◌++◌, length, refl, ap, arith, length-append}
use Rattle.byte_cursor.specs.Bytes.{le}
use Rattle.records.specs.declared.forms.ObjectRecord.{ObjectRecord}
use Rattle.records.specs.declared.forms.Record.TheVariants as record_of
use Rattle.records.specs.Records.{field, encode}
use Rattle.records.specs.Rights.{marks_number, bytes_of, rights_body}

le_length : (n v : ℕ) → length (le n v) ≡ n
le_length zero v = refl
le_length (suc n) v = ap suc (le_length n (v / 256))

field_short : (n v : ℕ) → length (field n v) ≤ n
field_short n v = elim (eqb v 0) as (λ z. length (cond z [] (le n v)) ≤ n) [ true ↦ omega arith | false ↦ omega (arith, le_length n v) ]

bytes_short : (rs : List ℕ) → length (bytes_of rs) ≤ length rs
bytes_short [] = omega arith
bytes_short (b ∷ rs) =
    let h = bytes_short rs in
    elim (eqb b 0) as (λ z. length (cond z (bytes_of rs) (b ∷ bytes_of rs)) ≤ length (b ∷ rs)) [ true ↦ omega arith | false ↦ omega arith ]

rights_short : (rs : List ℕ) → length rs ≡ 16 → length (rights_body rs) ≤ 18
rights_short rs e =
    let h = bytes_short rs in
    elim (eqb (marks_number rs) 0) as (λ z. length (cond z [] (le 2 (marks_number rs) ++ bytes_of rs)) ≤ 18) [ true ↦ omega arith | false ↦ omega arith ]

pub object_short : (o : ObjectRecord) → length o.rights ≡ 16 → length (encode (record_of.Object o)) ≤ 34
object_short o l =
    let h = rights_short o.rights l in
    let a = field 1 o.parent in
    let b = field 1 o.kind in
    let c = field 1 o.owner in
    let d = field 8 o.label in
    let e = field 2 o.groups in
    let f = rights_body o.rights in
    omega (arith, length-append a (b ++ (c ++ (d ++ (e ++ f)))), length-append b (c ++ (d ++ (e ++ f))), length-append c (d ++ (e ++ f)), length-append d (e ++ f), length-append e f, field_short 1 o.parent, field_short 1 o.kind, field_short 1 o.owner, field_short 8 o.label, field_short 2 o.groups)
