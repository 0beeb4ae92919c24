-- The refusals: their numbers, in the order in which they are asked, and their words. Assumes nothing.
use Rattle.std.specs.Prelude.{ℕ, List, Ok, Err, codes, Result}
use Rattle.calls.specs.declared.types.Refusal.{Refusal}
use Rattle.calls.specs.declared.types.Refusal.TheVariants.{NobodyThere, SeatTaken, NoLabel, WrongKind, NoRight, NotListed, WrongWay, OutOfRange, WontNest, StillRigged}

abbrev pub refusal_number : Refusal → ℕ
refusal_number NobodyThere = 1
refusal_number SeatTaken = 2
refusal_number NoLabel = 3
refusal_number WrongKind = 4
refusal_number NoRight = 5
refusal_number NotListed = 6
refusal_number WrongWay = 7
refusal_number OutOfRange = 8
refusal_number WontNest = 9
refusal_number StillRigged = 10

abbrev pub refusal_word : Refusal → List ℕ
refusal_word NobodyThere = codes "nobody there"
refusal_word SeatTaken = codes "seat taken"
refusal_word NoLabel = codes "no label"
refusal_word WrongKind = codes "wrong kind"
refusal_word NoRight = codes "no right"
refusal_word NotListed = codes "not listed"
refusal_word WrongWay = codes "wrong way"
refusal_word OutOfRange = codes "out of range"
refusal_word WontNest = codes "won't nest"
refusal_word StillRigged = codes "still rigged"

-- a granted call answers 0, and a refused one the number of its refusal
abbrev pub answer_number : Result (Unit {0}) Refusal → ℕ
answer_number (Ok x) = 0
answer_number (Err e) = refusal_number e
