use Rattle.std.proofs.Common.{refl, ◌∙◌, arith}
use Rattle.std.proofs.lemmas.Result.{err_from_is_err_and}
use Rattle.records.proofs.Fields.{field_length}
use Rattle.stream.proofs.Five.{bits_of, told, stays, five_size}
use Rattle.stream.proofs.reads.Arguments.read.Goals as goal

pub returns-in_err-second : goal.returns-in_err-second
returns-in_err-second c =
    let p = err_from_is_err_and c.from_residual-in_err-second.result c.from_residual-in_err-second.ensures.1 in
    let s = c.in_err-second.ensures in
    let f₁ = c.in_ok-first.ensures in
    rw (p.1, p.2) (s.fault ∙ f₁.first, omega (arith, s.few, five_size c.args.map, field_length f₁))

pub returns-in_err-third : goal.returns-in_err-third
returns-in_err-third c =
    let p = err_from_is_err_and c.from_residual-in_err-third.result c.from_residual-in_err-third.ensures.1 in
    let s = c.in_err-third.ensures in
    let f₁ = c.in_ok-first.ensures in
    let f₂ = c.in_ok-second.ensures in
    rw (p.1, p.2) (s.fault ∙ f₂.first ∙ f₁.first, omega (arith, s.few, five_size c.args.map, field_length f₁, field_length f₂))

pub returns-in_err-fourth : goal.returns-in_err-fourth
returns-in_err-fourth c =
    let p = err_from_is_err_and c.from_residual-in_err-fourth.result c.from_residual-in_err-fourth.ensures.1 in
    let s = c.in_err-fourth.ensures in
    let f₁ = c.in_ok-first.ensures in
    let f₂ = c.in_ok-second.ensures in
    let f₃ = c.in_ok-third.ensures in
    rw (p.1, p.2) (s.fault ∙ f₃.first ∙ f₂.first ∙ f₁.first, omega (arith, s.few, five_size c.args.map, field_length f₁, field_length f₂, field_length f₃))

pub returns-in_err-label : goal.returns-in_err-label
returns-in_err-label c =
    let p = err_from_is_err_and c.from_residual-in_err-label.result c.from_residual-in_err-label.ensures.1 in
    let s = c.in_err-label.ensures in
    let f₁ = c.in_ok-first.ensures in
    let f₂ = c.in_ok-second.ensures in
    let f₃ = c.in_ok-third.ensures in
    let f₄ = c.in_ok-fourth.ensures in
    rw (p.1, p.2) (s.fault ∙ f₄.first ∙ f₃.first ∙ f₂.first ∙ f₁.first, omega (arith, s.few, five_size c.args.map, field_length f₁, field_length f₂, field_length f₃, field_length f₄))

pub returns : goal.returns
returns c =
    let b = bits_of c.args.map in
    let c₁ = c.field.new.self in
    let c₂ = c.field-2.new.self in
    let c₃ = c.field-3.new.self in
    let c₄ = c.field-4.new.self in
    let c₅ = c.field-5.new.self in
    (c₁, told b.bit_0 c.in_ok-first.ensures, (c₂, told b.bit_1 c.in_ok-second.ensures, (c₃, told b.bit_2 c.in_ok-third.ensures, (c₄, told b.bit_3 c.in_ok-fourth.ensures, (c₅, told b.bit_4 c.in_ok-label.ensures, (stays c₅, refl))))))
