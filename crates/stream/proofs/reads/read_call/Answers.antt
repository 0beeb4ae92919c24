use Rattle.std.proofs.Common.{◌≡◌, get_or, sym, ap, ◌∙◌, arith}
use Rattle.std.proofs.lemmas.Result.{err_from_is_err_and}
use Rattle.stream.specs.declared.faults.CallFault.TheVariants.{Form}
use Rattle.stream.specs.Forms.{number_of, arguments}
use Rattle.stream.specs.Inside.{five, listed}
use Rattle.stream.proofs.Heads.{head_read, unknown, cut, other, good}
use Rattle.stream.proofs.Lists.{reads_first}
use Rattle.stream.proofs.Five.{made_number, made_arguments, full_size, full_reads, full_map, call_map}
use Rattle.stream.proofs.reads.read_call.Goals as goal

pub returns-in_err-map : goal.returns-in_err-map
returns-in_err-map c =
    let t = c.in_ok-bits.ensures in
    let h = head_read c.in_ok-bits.field-0.now c.begin.ensures.nothing c.begin.ensures.first t.took t.size t.first in
    let p = err_from_is_err_and c.from_residual-in_err-map.result c.from_residual-in_err-map.ensures.1 in
    let none = rw c.in_err-map.ensures.ok_part at c.full_map.ensures in
    let told = rw c.in_err-map.ensures.ok_part at c.in_err-map.ensures.value in
    let v : c.in_err-map.field-0.0 ≡ Form c.first.result = cc told in
    rw (p.1, p.2, v) (unknown h none c.first.result c.first.ensures)

pub returns-in_err-a : goal.returns-in_err-a
returns-in_err-a c =
    let t = c.in_ok-bits.ensures in
    let h = head_read c.in_ok-bits.field-0.now c.begin.ensures.nothing c.begin.ensures.first t.took t.size t.first in
    let k = rw c.in_ok-map.ensures.ok_part at c.full_map.ensures in
    let p = err_from_is_err_and c.from_residual-in_err-a.result c.from_residual-in_err-a.ensures.1 in
    let s = c.in_err-a.ensures in
    rw (p.1, p.2) (cut h k.0 c.in_err-a.field-0.0 s.0 (omega (arith, s.1, full_size k.0 k.1)))

pub returns-then-map : goal.returns-then-map
returns-then-map c =
    let t = c.in_ok-bits.ensures in
    let h = head_read c.in_ok-bits.field-0.now c.begin.ensures.nothing c.begin.ensures.first t.took t.size t.first in
    let k = rw c.in_ok-map.ensures.ok_part at c.full_map.ensures in
    let r = c.in_ok-a.ensures in
    let a = c.array.new.self in
    let b = c.read.new.c in
    let ps = listed c.in_ok-a.a in
    other h k.0 b _ (full_reads k.0 k.1 a b ps r)
    (λ m. c.if-map.true (c.map.ensures ∙ full_map k.0 k.1 a b ps r m))
    c.first-then-map.result (c.first-then-map.ensures ∙ reads_first c.in_ok-map.map five ps a b r)

pub returns : goal.returns
returns c =
    let t = c.in_ok-bits.ensures in
    let h = head_read c.in_ok-bits.field-0.now c.begin.ensures.nothing c.begin.ensures.first t.took t.size t.first in
    let k = rw c.in_ok-map.ensures.ok_part at c.full_map.ensures in
    let r = c.in_ok-a.ensures in
    let a = c.array.new.self in
    let b = c.read.new.c in
    let p = c.in_ok-a.a in
    let n = get_or c.in_ok-bits.field-0.now 1 0 in
    good h k.0 b _ (full_reads k.0 k.1 a b (listed p) r) c.call.result
    (ap number_of c.call.ensures ∙ made_number (listed p) n k.0.number)
    (ap arguments c.call.ensures ∙ made_arguments p.first p.second p.third p.fourth p.label n k.0.number)
    (call_map k.0 k.1 a b (listed p) r (sym c.map.ensures ∙ c.if-map.false))
