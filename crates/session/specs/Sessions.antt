-- What a run of a roll and a call stream answers and leaves. Assumes nothing.
use Rattle.std.specs.Prelude.{◌≡◌, ℕ, ◌/◌, ◌<◌, ◌≤◌, List, ◌++◌, length, drop, Some, None, Ok, Err, Option, Result}
use Rattle.labels.specs.Meaning.{Meaning}
use Rattle.tables.specs.declared.types.Tables.{Tables}
use Rattle.tables.specs.State.{blank}
use Rattle.calls.specs.declared.types.Call.{Call}
use Rattle.histories.specs.Runs.{Run}
use Rattle.histories.specs.Promises.{Secure, AllSecure}
use Rattle.stream.specs.declared.faults.CallFault.{CallFault}
use Rattle.stream.specs.Streams.{Streams}
use Rattle.stream.specs.Faults as of_call
use Rattle.monitor.specs.Faults as of_roll
use Rattle.monitor.specs.Loads.{Tells}
use Rattle.session.specs.declared.outcomes.Stop.TheVariants.{BadCall, BadRoll, NoRoom}
use Rattle.session.specs.declared.outcomes.Stop.{Stop}

-- the number of a stop: that of the fault of a bad call or a refused roll, and 15 for no room
abbrev pub stop_number : Stop → ℕ
stop_number (BadCall f) = of_call.fault_number f
stop_number (BadRoll f) = of_roll.fault_number f
stop_number NoRoom = 15

-- how a run ends: all calls were answered, or it stopped short
abbrev pub End : Type 0
End = Result (Unit {0}) Stop

-- the number of an end: 0 where all calls were answered, else that of the stop
abbrev pub end_number : End → ℕ
end_number (Ok x) = 0
end_number (Err s) = stop_number s

-- The calls of a stream were answered one after another from the tables `start` on: n of them, up to the end of the stream or the call that cannot
-- be read. The answers are in the front of the buffer, later bytes are as before, and `last` are the tables behind the last call.
pub record Answered (m : Meaning) (start : Tables) (stream : List ℕ) (end : Option CallFault) (n : ℕ) (before after : List ℕ) (last : Tables) : Type 0 where
  pub calls : List Call
  pub answers : List ℕ
  pub streams : Streams stream calls end
  pub run : Run m start calls answers
  pub ends : run.tables (length calls) ≡ last
  pub counted : n ≡ length calls
  pub written : after ≡ answers ++ drop n before

-- The roll was taken, and the calls were answered from its tables on. No promise is broken by them, nor by any calls from those tables on.
pub record Session (m : Meaning) (roll stream : List ℕ) (end : Option CallFault) (n : ℕ) (before after : List ℕ) (last : Tables) : Type 0 where
  pub start : Tables
  pub taken : Tells m roll (Ok start)
  pub answered : Answered m start stream end n before after last
  pub secure : Secure answered.run
  pub all_secure : AllSecure m start

-- What a run answers: how many calls, and its end; how it leaves the buffer, and which tables: t before, u after. No room: there is less than a byte
-- for every two of the stream, and nothing is done. A refused roll: no call is answered, and the tables are blank.
abbrev pub Ran : Meaning → List ℕ → List ℕ → ℕ → End → List ℕ → List ℕ → Tables → Tables → Type 0
Ran m roll stream n (Err NoRoom) before after t u = (length before < length stream / 2) × (n ≡ 0) × (after ≡ before) × (u ≡ t)
Ran m roll stream n (Err (BadRoll f)) before after t u = (length stream / 2 ≤ length before) × Tells m roll (Err f) × (n ≡ 0) × (after ≡ before) × (u ≡ blank)
Ran m roll stream n (Err (BadCall f)) before after t u = (length stream / 2 ≤ length before) × Session m roll stream (Some f) n before after u
Ran m roll stream n (Ok x) before after t u = (length stream / 2 ≤ length before) × Session m roll stream None n before after u

-- the same from the tables `start` on, without a roll
abbrev pub Stretch : Meaning → Tables → List ℕ → ℕ → End → List ℕ → List ℕ → Tables → Type 0
Stretch m start stream n (Err NoRoom) before after u = ⊥
Stretch m start stream n (Err (BadRoll f)) before after u = ⊥
Stretch m start stream n (Err (BadCall f)) before after u = Answered m start stream (Some f) n before after u
Stretch m start stream n (Ok x) before after u = Answered m start stream None n before after u

-- A roll and a stream have one list of answers and one end.
abbrev pub OneRun : Meaning → Type 0
OneRun m = (roll stream : List ℕ) (t u : Tables) (xs ys : List Call) (e f : Option CallFault) (p q : List ℕ) → Tells m roll (Ok t) → Tells m roll (Ok u)
    → Streams stream xs e → Streams stream ys f → Run m t xs p → Run m u ys q → (p ≡ q) × (e ≡ f)

-- A roll, a stream and a buffer have one outcome: so many answers, one end, one buffer and one set of tables.
abbrev pub OneOutcome : Meaning → Type 0
OneOutcome m = (roll stream before : List ℕ) (t : Tables) (n k : ℕ) (e f : End) (after later : List ℕ) (u w : Tables)
    → Ran m roll stream n e before after t u → Ran m roll stream k f before later t w → (n ≡ k) × (e ≡ f) × (after ≡ later) × (u ≡ w)
