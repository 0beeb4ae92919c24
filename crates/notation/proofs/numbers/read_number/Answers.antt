use Rattle.std.proofs.lemmas.Bool.Decides.{not_from_Decides}
use Rattle.notation.proofs.Decimals.{no_prefix, reads_number}
use Rattle.notation.proofs.numbers.read_number.Goals as goal

pub returns-then-has_prefix : goal.returns-then-has_prefix
returns-then-has_prefix c n h e = no_prefix n c.args.text.now h e (c.has_prefix.ensures.0 c.if-has_prefix.true)

pub returns : goal.returns
returns c =
    rw (c.ok.ensures.value)
    (reads_number c.args.text.now c.parse.result c.parse.ensures.value.0 (not_from_Decides _ c.has_prefix.ensures c.if-has_prefix.false))
