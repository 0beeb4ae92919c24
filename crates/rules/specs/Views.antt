-- What a call answers on a view of the tables. Assumes nothing.
use Rattle.std.specs.Prelude.{Result}
use Rattle.labels.specs.Meaning.{Meaning}
use Rattle.calls.specs.declared.types.Call.{Call}
use Rattle.calls.specs.declared.types.Refusal.{Refusal}
use Rattle.calls.specs.Calls.{Answer}
use Rattle.calls.specs.Refusals.{answer_number}
use Rattle.sound.specs.declared.views.View.{View}
use Rattle.sound.specs.Views.{seen}

-- the call c gets its defined answer on the view v
abbrev pub Answers : {S : Type 0} → (S → Meaning) → View S → Call → Result (Unit {0}) Refusal → Type 0
Answers meaning v c r = seen meaning v Answer c (answer_number r)
