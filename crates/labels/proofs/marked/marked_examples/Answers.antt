use Rattle.labels.proofs.Rows.{marked_stand}
use Rattle.labels.proofs.marked.marked_examples.Goals as goal

pub returns-clause-stand : goal.returns-clause-stand
returns-clause-stand c = marked_stand
