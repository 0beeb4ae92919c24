-- What a line asks, or the first word of it that is not understood. Assumes nothing.
use Rattle.std.specs.Prelude.{◌≡◌, ℕ, ◌<◌, ◌≤◌, ◌⊎◌, List, [], length, Ok, Err, codes, IsUtf8, Result, slice_index_or}
use Rattle.calculator.specs.declared.questions.Ask.{Ask}
use Rattle.calculator.specs.declared.questions.Ask.TheVariants as ask
use Rattle.notation.specs.declared.schemes.SchemeName.{SchemeName}
use Rattle.calculator.specs.declared.questions.Question.{Question}
use Rattle.calculator.specs.declared.questions.Query.{Query}
use Rattle.calculator.specs.declared.questions.Query.TheVariants as query
use Rattle.calculator.specs.declared.questions.Fault.{Fault}
use Rattle.calculator.specs.declared.questions.Fault.TheVariants as fault
use Rattle.notation.specs.Notation.{Names, called_scheme}
use Rattle.notation.specs.Texts.{words}

-- what each question is called
abbrev pub called_ask : Ask → List ℕ
called_ask ask.Label = codes "label"
called_ask ask.Flows = codes "flows"
called_ask ask.Holds = codes "holds"
called_ask ask.Number = codes "number"
called_ask ask.Parts = codes "parts"

-- word number i of a line; a word that is missing is empty
abbrev pub word : List (List ℕ) → ℕ → List ℕ
word ws i = slice_index_or ws i []

-- Something is read, and then `Next` says what the answer is; or nothing can be, and the answer is the fault f.
abbrev pub Reads : {X : Type 0} → (X → Type 0) → Fault → Result Question Fault → (X → Type 0) → Type 0
Reads {X} Is f r Next = ((x : X) × Is x × Next x) ⊎ (((x : X) → Is x → ⊥) × (r ≡ Err f))

-- there are no words behind the first n, and the question is q of the scheme k; or there are, and that is the fault
abbrev pub Whole : List (List ℕ) → ℕ → SchemeName → Query → Result Question Fault → Type 0
Whole ws n k q r = ((length ws ≤ n) × (r ≡ Ok (record { scheme = k; query = q }))) ⊎ ((n < length ws) × (r ≡ Err fault.Extra))

-- what follows the first label: nothing, or a second one
abbrev pub Rest : List (List ℕ) → Ask → SchemeName → ℕ → Result Question Fault → Type 0
Rest ws ask.Label k a r = Whole ws 3 k (query.Label a) r
Rest ws ask.Flows k a r = Reads (Names k (word ws 3)) fault.Second r (λ b. Whole ws 4 k (query.Flows a b) r)
Rest ws ask.Holds k a r = Reads (Names k (word ws 3)) fault.Second r (λ b. Whole ws 4 k (query.Holds a b) r)
Rest ws ask.Number k a r = Whole ws 3 k (query.Number a) r
Rest ws ask.Parts k a r = Whole ws 3 k (query.Parts a) r

-- The words of a question: what is asked, of which scheme, and of which one or two labels.
abbrev pub Asked : List (List ℕ) → Result Question Fault → Type 0
Asked ws r =
    Reads (λ q. word ws 0 ≡ called_ask q) fault.Ask r (λ q.
    Reads (λ k. word ws 1 ≡ called_scheme k) fault.Scheme r (λ k.
    Reads (Names k (word ws 2)) fault.First r (λ a.
    Rest ws q k a r)))

-- A line that is no text is not understood; one that is text is, by its words.
abbrev pub Understood : List ℕ → Result Question Fault → Type 0
Understood line r = (IsUtf8 line × Asked (words line) r) ⊎ ((IsUtf8 line → ⊥) × (r ≡ Err fault.Text))
