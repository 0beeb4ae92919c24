-- What a stream of calls says. Assumes nothing.
use Rattle.std.specs.Prelude.{◌≡◌, ℕ, ◌<◌, List, ◌++◌, length, Some, None, Option}
use Rattle.std.specs.List.{flat_map, AllByRecursion}
use Rattle.calls.specs.declared.types.Call.{Call}
use Rattle.stream.specs.declared.faults.CallFault.{CallFault}
use Rattle.stream.specs.Forms.{encode, InForm}
use Rattle.stream.specs.Faults.{Faulty}

-- The bytes are those of the calls, which are in form, and nothing follows; or behind the calls stands one that cannot be read.
abbrev pub Streams : List ℕ → List Call → Option CallFault → Type 0
Streams bytes calls None = AllByRecursion InForm calls × (bytes ≡ flat_map encode calls)
Streams bytes calls (Some f) = (rest : List ℕ) × AllByRecursion InForm calls × (bytes ≡ flat_map encode calls ++ rest) × (0 < length rest) × Faulty (length (flat_map encode calls)) rest f

-- Every byte string streams as one list of calls, with one end.
abbrev pub OneReading : Type 0
OneReading = (bytes : List ℕ) (xs ys : List Call) (e f : Option CallFault) → Streams bytes xs e → Streams bytes ys f → (xs ≡ ys) × (e ≡ f)
