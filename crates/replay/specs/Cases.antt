-- Stored cases, and what is told of them. Assumes nothing.
use Rattle.std.specs.Prelude.{◌≡◌, ℕ, ◌/◌, ◌<◌, ◌≤◌, ◌≢◌, List, [], ◌∷◌, ◌++◌, length, take, Ok, Err, codes, decimal, cond, ◌==◌}
use Rattle.hex.specs.Hex.{encode_lower}
use Rattle.labels.specs.Meaning.{Meaning}
use Rattle.labels.specs.House.{house}
use Rattle.labels.specs.Old.{old}
use Rattle.tables.specs.declared.types.Tables.{Tables}
use Rattle.tables.specs.State.{blank}
use Rattle.byte_cursor.specs.Bytes.{le}
use Rattle.saving.specs.Saves.{saved}
use Rattle.stream.specs.Faults as of_call
use Rattle.monitor.specs.Faults as of_roll
use Rattle.monitor.specs.declared.faults.RollFault.TheVariants.{Record, Unsound}
use Rattle.sound.specs.Sound.{number}
use Rattle.session.specs.declared.outcomes.Stop.TheVariants.{BadCall, BadRoll, NoRoom}
use Rattle.session.specs.Sessions.{End, Ran}

-- a case as bytes: its label, how long the roll and the call stream are, and the two
abbrev pub written : ℕ → List ℕ → List ℕ → List ℕ
written label roll calls = le 1 label ++ (le 2 (length roll) ++ (le 2 (length calls) ++ (roll ++ calls)))

-- the answers, each with a space behind it
abbrev pub answers_text : List ℕ → List ℕ
answers_text [] = []
answers_text (a ∷ rest) = (decimal a ++ codes " ") ++ answers_text rest

-- no case stands in front of these bytes
abbrev pub NoCase : List ℕ → Type 0
NoCase bytes = (label : ℕ) (roll calls rest : List ℕ) → length roll < 65536 → length calls < 65536 → bytes ≢ written label roll calls ++ rest

-- a fault: a word, its number, and its byte place
abbrev pub text_of_fault : List ℕ → ℕ → ℕ → List ℕ
text_of_fault word number place = word ++ (codes " " ++ (decimal number ++ (codes " " ++ decimal place)))

-- how a run ends
abbrev pub end_text : End → List ℕ
end_text (Ok x) = codes "end"
end_text (Err NoRoom) = codes "no room"
end_text (Err (BadCall f)) = text_of_fault (codes "bad") (of_call.fault_number f) (of_call.fault_place f)
end_text (Err (BadRoll (Record f))) = text_of_fault (codes "roll") (of_roll.fault_number (Record f)) (of_roll.fault_place (Record f))
end_text (Err (BadRoll (Unsound c n))) = codes "roll 14 " ++ (decimal n ++ (codes " " ++ decimal (number c)))

-- The line of a case: the answers of its run on a guard that was blank, with room for them, how it ends, and the bytes that the guard then saves.
pub record Told (m : Meaning) (roll calls line : List ℕ) : Type 0 where
  pub answered : ℕ
  pub end : End
  pub before : List ℕ
  pub after : List ℕ
  pub last : Tables
  pub room : length calls / 2 ≤ length before
  pub ran : Ran m roll calls answered end before after blank last
  pub line_is : line ≡ answers_text (take answered after) ++ (end_text end ++ (codes " " ++ (encode_lower (saved last) ++ codes "\n")))

-- the label of a case: 0 is the house label, any other number the old one
abbrev pub label_of : ℕ → Meaning
label_of n = cond (n == 0) house old

-- A line for each case, one after another; where no case can be read, a line that says so is the last.
pub data Replayed : List ℕ → List ℕ → Type 0 where
  none : Replayed [] []
  one : (label : ℕ) (roll calls rest line lines : List ℕ) → Told (label_of label) roll calls line → Replayed rest lines → Replayed (written label roll calls ++ rest) (line ++ lines)
  cut : (bytes : List ℕ) → NoCase bytes → Replayed bytes (codes "the cases are cut short\n")
