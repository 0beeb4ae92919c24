-- What is replied to a line, and to a whole text. Assumes nothing.
use Rattle.std.specs.Prelude.{◌≡◌, ℕ, ◌+◌, cond, List, [], ◌∷◌, ◌++◌, Ok, Err, codes, decimal, Result}
use Rattle.labels.specs.Parts.{parts_of, notation}
use Rattle.notation.specs.declared.schemes.SchemeName.{SchemeName}
use Rattle.notation.specs.declared.schemes.SchemeName.TheVariants as scheme
use Rattle.calculator.specs.declared.questions.Question.{Question}
use Rattle.calculator.specs.declared.questions.Query.{Query}
use Rattle.calculator.specs.declared.questions.Query.TheVariants as query
use Rattle.calculator.specs.declared.questions.Fault.{Fault}
use Rattle.calculator.specs.declared.questions.Fault.TheVariants as fault
use Rattle.calculator.specs.declared.replies.Reply.{Reply}
use Rattle.calculator.specs.declared.replies.Reply.TheVariants as reply
use Rattle.notation.specs.Notation.{meaning_of}
use Rattle.calculator.specs.Questions.{Understood}

-- the answer to what is asked of a scheme; the old label has one part
abbrev pub reply_by : SchemeName → Query → Reply
reply_by k (query.Label a) = reply.Truth ((meaning_of k).label a)
reply_by k (query.Flows a b) = reply.Truth ((meaning_of k).flow a b)
reply_by k (query.Holds p c) = reply.Truth ((meaning_of k).hold p c)
reply_by k (query.Number a) = reply.Number a
reply_by scheme.House (query.Parts a) = reply.Parts (parts_of a)
reply_by scheme.Old (query.Parts a) = reply.Number a

-- the answer to a question
abbrev pub reply_to : Question → Reply
reply_to q = reply_by q.scheme q.query

abbrev pub reply_text : Reply → List ℕ
reply_text (reply.Truth b) = cond b (codes "yes") (codes "no")
reply_text (reply.Number n) = decimal n
reply_text (reply.Parts p) = notation p

abbrev pub fault_text : Fault → List ℕ
fault_text fault.Text = codes "this is no text in UTF-8"
fault_text fault.Ask = codes "no such question: ask label, flows, holds, number or parts"
fault_text fault.Scheme = codes "no such label scheme: name house or old"
fault_text fault.First = codes "the first label is not understood: write a number, or for house a,b;c,d"
fault_text fault.Second = codes "the second label is not understood: write a number, or for house a,b;c,d"
fault_text fault.Extra = codes "more words than the question takes"

-- what is printed for line n
abbrev pub line_text : ℕ → Result Question Fault → List ℕ
line_text n (Ok q) = reply_text (reply_to q) ++ codes "\n"
line_text n (Err f) = codes "line " ++ (decimal n ++ (codes ": " ++ (fault_text f ++ codes "\n")))

abbrev pub Replied : ℕ → List ℕ → List ℕ → Type 0
Replied n line out = (r : Result Question Fault) × Understood line r × (out ≡ line_text n r)

-- one reply to each line, which are numbered from n + 1 on
abbrev pub Replies : ℕ → List (List ℕ) → List ℕ → Type 0
Replies n [] out = out ≡ []
Replies n (line ∷ lines) out = (first : List ℕ) × (rest : List ℕ) × (out ≡ first ++ rest) × Replied (n + 1) line first × Replies (n + 1) lines rest
