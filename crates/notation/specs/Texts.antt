-- Texts as lists of bytes, cut at a byte. Assumes nothing.
use Rattle.std.specs.Prelude.{◌≡◌, ℕ, ◌<◌, cond, List, [], ◌∷◌, ◌++◌, length, drop, Some, None, Option, ◌==◌, ◌≢◌, slice_index, slice_index_or}
use Rattle.std.specs.Borrow.{Bor}
use Rattle.notation.specs.declared.texts.Words.{Words}

-- the byte c does not stand in the text
abbrev pub Lacks : ℕ → List ℕ → Type 0
Lacks c bs = (i : ℕ) → i < length bs → slice_index bs i ≢ c

-- a byte in front of the first piece
abbrev pub before : ℕ → List (List ℕ) → List (List ℕ)
before b [] = (b ∷ []) ∷ []
before b (p ∷ ps) = (b ∷ p) ∷ ps

-- the pieces between the bytes c
abbrev pub pieces : ℕ → List ℕ → List (List ℕ)
pieces c [] = [] ∷ []
pieces c (b ∷ bs) = cond (b == c) ([] ∷ pieces c bs) (before b (pieces c bs))

-- the words of a line: what stands between its spaces
abbrev pub words : List ℕ → List (List ℕ)
words line = pieces 32 line

-- the words that are left of a line
abbrev pub words_in : Option (Bor (List ℕ)) → List (List ℕ)
words_in None = []
words_in (Some text) = words text.now

abbrev pub left : Words → List (List ℕ)
left w = words_in w.rest

-- the next word was given; an empty one where none was left
pub record Gave (from : Words) (word : List ℕ) (to : Words) : Type 0 where
  pub word_is : word ≡ slice_index_or (left from) 0 []
  pub rest_is : left to ≡ drop 1 (left from)

-- the lines of a text: each ends at a newline, which the last may lack
pub data Lines : List ℕ → List (List ℕ) → Type 0 where
  none : Lines [] []
  last : {line : List ℕ} → Lacks 10 line → 0 < length line → Lines line (line ∷ [])
  more : {line rest : List ℕ} {lines : List (List ℕ)} → Lacks 10 line → Lines rest lines → Lines (line ++ (10 ∷ rest)) (line ∷ lines)
