-- What is printed for a roll. Assumes nothing.
use Rattle.std.specs.Prelude.{◌≡◌, ℕ, Bool, true, cond, List, ◌++◌, length, Ok, Err, codes, decimal, Result}
use Rattle.labels.specs.House.{house}
use Rattle.tables.specs.declared.types.Tables.{Tables}
use Rattle.monitor.specs.declared.faults.RollFault.{RollFault}
use Rattle.monitor.specs.Loads.{Loads}
use Rattle.listing.specs.Words.{refusal_text}
use Rattle.listing.specs.Listed.{text_of_users, text_of_groups, text_of_objects}

-- how many bytes the roll has, and whether its tables are saved as the same
abbrev pub final_line : ℕ → Bool → List ℕ
final_line n same = decimal n ++ (codes " bytes, saved as " ++ (cond same (codes "the same") (codes "OTHER") ++ codes " bytes\n"))

abbrev pub listed : Tables → ℕ → Bool → List ℕ
listed t n same = text_of_users t ++ (text_of_groups t ++ (text_of_objects t ++ final_line n same))

-- A roll that is refused gives one line with its fault; of one that is taken the tables are listed, and they are saved as the same bytes.
abbrev pub Printed : List ℕ → Result (Unit {0}) RollFault → Tables → List ℕ → Type 0
Printed bytes (Ok x) t out = out ≡ listed t (length bytes) true
Printed bytes (Err f) t out = out ≡ refusal_text f ++ codes "\n"

-- The answer of a guard at the house label, and what is printed for it.
abbrev pub Reported : List ℕ → List ℕ → Type 0
Reported bytes out = (r : Result (Unit {0}) RollFault) × (t : Tables) × Loads house bytes r t × Printed bytes r t out
