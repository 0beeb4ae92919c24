-- What is printed for a run of a roll and a call stream. Assumes nothing.
use Rattle.std.specs.Prelude.{◌≡◌, ℕ, suc, List, [], ◌∷◌, ◌++◌, Some, None, Ok, Err, codes, decimal, Option}
use Rattle.labels.specs.Meaning.{Meaning}
use Rattle.tables.specs.declared.types.Tables.{Tables}
use Rattle.calls.specs.declared.types.Call.{Call}
use Rattle.histories.specs.Runs.{Run}
use Rattle.histories.specs.Promises.{Secure}
use Rattle.stream.specs.declared.faults.CallFault.{CallFault}
use Rattle.stream.specs.Streams.{Streams}
use Rattle.stream.specs.Faults as of_call
use Rattle.monitor.specs.declared.faults.RollFault.{RollFault}
use Rattle.monitor.specs.Faults as of_roll
use Rattle.monitor.specs.Loads.{Tells}
use Rattle.session.specs.declared.outcomes.Stop.TheVariants.{BadCall, BadRoll, NoRoom}
use Rattle.session.specs.Sessions.{End}

-- the line of one call: its place and its answer
abbrev pub line_of : ℕ → ℕ → List ℕ
line_of k a = decimal k ++ (codes " " ++ (decimal a ++ codes "\n"))

-- a line for each answer, from the place k on
abbrev pub lines_from : ℕ → List ℕ → List ℕ
lines_from k [] = []
lines_from k (a ∷ rest) = line_of k a ++ lines_from (suc k) rest

-- the line of a fault: a word, its number, and its byte place
abbrev pub line_of_fault : List ℕ → ℕ → ℕ → List ℕ
line_of_fault word number place = word ++ (codes " " ++ (decimal number ++ (codes " " ++ (decimal place ++ codes "\n"))))

-- the line of a call that cannot be read, and of a roll that is refused
abbrev pub bad_line : CallFault → List ℕ
bad_line f = line_of_fault (codes "bad") (of_call.fault_number f) (of_call.fault_place f)

abbrev pub roll_line : RollFault → List ℕ
roll_line f = line_of_fault (codes "roll") (of_roll.fault_number f) (of_roll.fault_place f)

abbrev pub end_line : Option CallFault → List ℕ
end_line None = []
end_line (Some f) = bad_line f

abbrev pub final_line : End → List ℕ
final_line (Ok x) = []
final_line (Err (BadCall f)) = bad_line f
final_line (Err (BadRoll f)) = roll_line f
final_line (Err NoRoom) = []

-- A roll that is refused prints one line. With a roll that is taken, the calls of the stream are answered one after another from its tables on, a line
-- each, up to the end of the stream or the first call that cannot be read, which has the last line; and no promise is broken.
pub data Printed (m : Meaning) (roll stream out : List ℕ) : Type 0 where
  refused : (f : RollFault) → Tells m roll (Err f) → out ≡ roll_line f → Printed m roll stream out
  taken : (start : Tables) (calls : List Call) (answers : List ℕ) (end : Option CallFault) → Tells m roll (Ok start) → Streams stream calls end
      → (r : Run m start calls answers) → Secure r → out ≡ lines_from 0 answers ++ end_line end → Printed m roll stream out
