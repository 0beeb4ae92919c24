-- What is said of a guard: of its scheme and of its tables. Assumes nothing.
use Rattle.labels.specs.Meaning.{Meaning}
use Rattle.tables.specs.declared.types.Tables.{Tables}
use Rattle.monitor.specs.declared.guards.Guard.{Guard}

-- the question of a meaning and of tables, put to those of the guard g
abbrev pub within : {S : Type 0} {X : Type 1} → (S → Meaning) → Guard S → (Meaning → Tables → X) → X
within meaning g question = question (meaning g.scheme) g.tables
