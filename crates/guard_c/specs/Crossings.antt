-- What crosses to C: the end of a run or a resave in numbers, and what those numbers and the buffer tell. Assumes nothing.
use Rattle.std.specs.Prelude.{◌≡◌, ℕ, List, Ok, Err}
use Rattle.labels.specs.Meaning.{Meaning}
use Rattle.tables.specs.State.{blank}
use Rattle.tables.specs.declared.types.Tables.{Tables}
use Rattle.sound.specs.Sound.{number}
use Rattle.saving.specs.Saves.{saved, Stored, Refused}
use Rattle.stream.specs.Faults as of_call
use Rattle.monitor.specs.declared.faults.RollFault.{RollFault}
use Rattle.monitor.specs.declared.faults.RollFault.TheVariants as of_roll
use Rattle.monitor.specs.Faults as roll_fault
use Rattle.monitor.specs.Loads.{Tells}
use Rattle.session.specs.declared.outcomes.Stop.{Stop}
use Rattle.session.specs.declared.outcomes.Stop.TheVariants.{BadCall, BadRoll, NoRoom}
use Rattle.session.specs.Sessions.{End, end_number, Ran}
use Rattle.guard_c.specs.declared.reports.Report.{Report}

-- the byte place of a bad call or of a refused roll, and 0 for no room
abbrev pub stop_place : Stop → ℕ
stop_place (BadCall f) = of_call.fault_place f
stop_place (BadRoll f) = roll_fault.fault_place f
stop_place NoRoom = 0

-- the clause that fails of a roll that is not sound, counted from 1, and 0 for every other stop
abbrev pub fault_clause : RollFault → ℕ
fault_clause (of_roll.Record f) = 0
fault_clause (of_roll.Unsound c n) = number c

abbrev pub stop_clause : Stop → ℕ
stop_clause (BadCall f) = 0
stop_clause (BadRoll f) = fault_clause f
stop_clause NoRoom = 0

-- the same of an end, which is 0 where nothing stopped it
abbrev pub end_place : End → ℕ
end_place (Ok x) = 0
end_place (Err s) = stop_place s

abbrev pub end_clause : End → ℕ
end_clause (Ok x) = 0
end_clause (Err s) = stop_clause s

-- the numbers of an end, behind n bytes that were written
abbrev pub report_of : ℕ → End → Report
report_of n e = record { written = n; place = end_place e; number = end_number e; clause = end_clause e }

-- A run from a blank guard ends in some way, which the report tells: so many answers, and the end.
pub record TellsRun (m : Meaning) (roll stream before after : List ℕ) (told : Report) : Type 0 where
  pub answered : ℕ
  pub end : End
  pub last : Tables
  pub ran : Ran m roll stream answered end before after blank last
  pub report : told ≡ report_of answered end

-- How a roll is loaded and saved again. A roll that is taken is saved as the same bytes where the buffer has room; else the buffer stays.
abbrev pub Resaved : Meaning → List ℕ → ℕ → End → List ℕ → List ℕ → Type 0
Resaved m roll n (Ok x) before after = (t : Tables) × Tells m roll (Ok t) × (saved t ≡ roll) × Stored (saved t) before after n
Resaved m roll n (Err NoRoom) before after = (t : Tables) × Tells m roll (Ok t) × (saved t ≡ roll) × Refused (saved t) before after × (n ≡ 0)
Resaved m roll n (Err (BadRoll f)) before after = Tells m roll (Err f) × (n ≡ 0) × (after ≡ before)
Resaved m roll n (Err (BadCall f)) before after = ⊥

-- A resave ends in some way, which the report tells: so many bytes, and the end.
pub record TellsResave (m : Meaning) (roll before after : List ℕ) (told : Report) : Type 0 where
  pub written : ℕ
  pub end : End
  pub resaved : Resaved m roll written end before after
  pub report : told ≡ report_of written end
