-- The bytes that the tables are saved as, and what saving leaves in a buffer. Assumes nothing.
use Rattle.std.specs.Prelude.{◌≡◌, ℕ, ◌+◌, ◌<◌, ◌≤◌, List, ◌++◌, length, take, drop}
use Rattle.std.specs.List.{flat_map}
use Rattle.tables.specs.declared.types.Tables.{Tables}
use Rattle.records.specs.Records.{encode}
use Rattle.roll.specs.Slots.{records_of}

-- one record after the other: the users, then the groups, then the objects
abbrev pub saved : Tables → List ℕ
saved t = flat_map encode (records_of t)

-- xs stands from the place on, and all else stays
abbrev pub wrote : List ℕ → ℕ → List ℕ → List ℕ
wrote buf place xs = take place buf ++ (xs ++ drop (place + length xs) buf)

-- n bytes were saved, which are all: they stand in the buffer's front, and what lies behind them stays
pub record Stored (bytes before after : List ℕ) (n : ℕ) : Type 0 where
  pub all : n ≡ length bytes
  pub fits : n ≤ length before
  pub there : after ≡ bytes ++ drop n before

-- the buffer is too short, and stays
pub record Refused (bytes before after : List ℕ) : Type 0 where
  pub short : length before < length bytes
  pub same : after ≡ before
