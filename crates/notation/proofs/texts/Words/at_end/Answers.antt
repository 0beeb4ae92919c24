use Rattle.notation.proofs.Cuts.{left_none}
use Rattle.notation.proofs.texts.Words.at_end.Goals as goal

pub returns : goal.returns
returns c = left_none c.args.self.now.rest c.is_none.result c.is_none.ensures
