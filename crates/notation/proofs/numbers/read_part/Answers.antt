use Rattle.notation.proofs.Decimals.{part_of}
use Rattle.notation.proofs.numbers.read_part.Goals as goal

pub returns : goal.returns
returns c = part_of c.args.text.now c.in_ok-read_number.field-0 c.try_from.result c.ok.result c.ok.ensures.value c.in_ok-read_number.ensures.0 c.in_ok-read_number.ensures.1 c.try_from.ensures
