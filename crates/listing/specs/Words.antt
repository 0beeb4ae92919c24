-- The words for faults, clauses, kinds and rights. Assumes nothing.
use Rattle.std.specs.Prelude.{ℕ, List, [], ◌++◌, codes, decimal}
use Rattle.records.specs.declared.forms.RecordFault.{RecordFault}
use Rattle.records.specs.declared.forms.RecordFault.TheVariants as of_record
use Rattle.monitor.specs.declared.faults.RollFault.{RollFault}
use Rattle.monitor.specs.declared.faults.RollFault.TheVariants as of_roll
use Rattle.monitor.specs.Faults.{fault_number, fault_place}
use Rattle.sound.specs.declared.clauses.Clause.{Clause}
use Rattle.sound.specs.declared.clauses.Clause.TheVariants as clause
use Rattle.tables.specs.declared.sets.Right.{Right}
use Rattle.tables.specs.declared.sets.Right.TheVariants as right
use Rattle.tables.specs.declared.types.Kind.{Kind}
use Rattle.tables.specs.declared.types.Kind.TheVariants as kind

abbrev pub word_of_record : RecordFault → List ℕ
word_of_record (of_record.Bytes e) = codes "cut short"
word_of_record (of_record.Form p) = codes "bad form"
word_of_record (of_record.Order p) = codes "out of order"

abbrev pub word_of_fault : RollFault → List ℕ
word_of_fault (of_roll.Record f) = word_of_record f
word_of_fault (of_roll.Unsound c n) = codes "unsound"

abbrev pub letter_of_clause : Clause → List ℕ
letter_of_clause clause.Groups = codes "a"
letter_of_clause clause.Labels = codes "b"
letter_of_clause clause.Tree = codes "c"
letter_of_clause clause.Owners = codes "d"
letter_of_clause clause.Lists = codes "e"
letter_of_clause clause.Administrator = codes "f"
letter_of_clause clause.Nesting = codes "g"
letter_of_clause clause.Mixed = codes "h"

abbrev pub text_of_clause : Clause → List ℕ
text_of_clause clause.Groups = codes "a group that a user or an object names does not exist"
text_of_clause clause.Labels = codes "something is no label, or a floor does not flow to its top"
text_of_clause clause.Tree = codes "object 0 is not a container of its own, or a parent is no container, or parents do not lead to 0"
text_of_clause clause.Owners = codes "an owner, or a user with rights, does not exist"
text_of_clause clause.Lists = codes "an allow list names something that is no program"
text_of_clause clause.Administrator = codes "there is no administrator"
text_of_clause clause.Nesting = codes "an unmixed container does not hold everything under it"
text_of_clause clause.Mixed = codes "something mixed is no container"

abbrev pub word_of_kind : Kind → List ℕ
word_of_kind kind.Container = codes "container"
word_of_kind kind.File = codes "file"
word_of_kind kind.Program = codes "program"

abbrev pub word_of_right : Right → List ℕ
word_of_right right.Read = codes "read"
word_of_right right.Write = codes "write"
word_of_right right.Create = codes "create"
word_of_right right.Delete = codes "delete"
word_of_right right.ChangeRights = codes "change rights"
word_of_right right.Execute = codes "execute"
word_of_right right.WriteAttributes = codes "write attributes"

-- of an unsound roll, the clause that fails first, by its letter and in words
abbrev pub refusal_tail : RollFault → List ℕ
refusal_tail (of_roll.Record f) = []
refusal_tail (of_roll.Unsound c n) = codes ", clause " ++ (letter_of_clause c ++ (codes ": " ++ text_of_clause c))

-- the line that refuses a roll: the fault's number and word, its place, and the clause
abbrev pub refusal_text : RollFault → List ℕ
refusal_text f = codes "roll refused: " ++ (decimal (fault_number f) ++ (codes " " ++ (word_of_fault f ++ (codes " at byte " ++ (decimal (fault_place f) ++ refusal_tail f)))))
