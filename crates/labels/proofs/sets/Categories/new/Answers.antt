use Rattle.std.proofs.Common.{ℕ, subst}
use Rattle.labels.specs.Schemes.{categories, ByCategory}
use Rattle.labels.proofs.Each.{by_category}
use Rattle.labels.proofs.sets.Categories.new.Goals as goal

pub returns-clause-each : goal.returns-clause-each
returns-clause-each c = subst (λ (k : ℕ). ByCategory k (categories c.min.result)) c.min.ensures (by_category c.min.result)
