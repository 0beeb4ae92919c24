-- What is asked through a view: of the scheme and of the tables that it lends. Assumes nothing.
use Rattle.labels.specs.Meaning.{Meaning}
use Rattle.tables.specs.declared.types.Tables.{Tables}
use Rattle.sound.specs.declared.views.View.{View}

-- the question of a meaning and of tables, put to those of the view v
abbrev pub seen : {S : Type 0} {X : Type 1} → (S → Meaning) → View S → (Meaning → Tables → X) → X
seen meaning v question = question (meaning v.scheme.now) v.tables.now
