use Rattle.std.proofs.Common.{ℕ, ◌+◌, ap}
use Rattle.monitor.proofs.Rows.{marked_stand}
use Rattle.monitor.proofs.marked.marked_examples.Goals as goal

pub returns : goal.returns
returns c = record { rows = ap (λ (n : ℕ). n + 2) c.marked_examples.ensures.rows; stand = marked_stand }
