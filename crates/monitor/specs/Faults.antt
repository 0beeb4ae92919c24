-- The numbers of a roll's faults, and where they stand. Assumes nothing.
use Rattle.std.specs.Prelude.{ℕ}
use Rattle.records.specs.declared.forms.RecordFault.TheVariants as of_record
use Rattle.monitor.specs.declared.faults.RollFault.{RollFault}
use Rattle.monitor.specs.declared.faults.RollFault.TheVariants as of_roll

-- 11 cut short, 12 bad form, 13 out of order, 14 unsound
abbrev pub fault_number : RollFault → ℕ
fault_number (of_roll.Record (of_record.Bytes e)) = 11
fault_number (of_roll.Record (of_record.Form p)) = 12
fault_number (of_roll.Record (of_record.Order p)) = 13
fault_number (of_roll.Unsound c n) = 14

-- the first byte of the bad record; of an unsound roll, its length
abbrev pub fault_place : RollFault → ℕ
fault_place (of_roll.Record (of_record.Bytes e)) = e.first
fault_place (of_roll.Record (of_record.Form p)) = p
fault_place (of_roll.Record (of_record.Order p)) = p
fault_place (of_roll.Unsound c n) = n
