-- The words of a question, as they are read one after another. Assumes nothing.
use Rattle.std.proofs.Common.{◌≡◌, ℕ, ◌^◌, ◌<◌, List, [], ◌∷◌, ◌++◌, length, decimal, Result, ap, inl, inr, arith, length-append}
use Rattle.std.proofs.lemmas.Fmt.{decimal_nonempty}
use Rattle.calculator.specs.declared.questions.Ask.{Ask}
use Rattle.calculator.specs.declared.questions.Question.{Question}
use Rattle.calculator.specs.declared.questions.Fault.{Fault}
use Rattle.calculator.specs.declared.questions.Fault.TheVariants as fault
use Rattle.notation.specs.declared.schemes.SchemeName.{SchemeName}
use Rattle.notation.specs.declared.schemes.SchemeName.TheVariants.{House, Old}
use Rattle.notation.specs.Notation.{Names, called_scheme}
use Rattle.calculator.specs.Questions.{called_ask, word, Reads, Rest, Asked}

-- an empty text names nothing
no_decimal : (n : ℕ) → n < 2 ^ 64 → [] ≡ decimal n → ⊥
no_decimal n h e = let some = decimal_nonempty n h in omega (arith, ap length e, some)

pub names_nothing : (k : SchemeName) (n : ℕ) → Names k [] n → ⊥
names_nothing Old n named = no_decimal n named.0 named.1
names_nothing House n (inl named) = no_decimal n named.0 named.1
names_nothing House n (inr named) =
    let p = named.0 in omega (arith, ap length named.2, length-append (decimal p.secrecy) (44 ∷ (decimal p.secrecy_categories ++ (59 ∷ (decimal p.trust ++ (44 ∷ decimal p.trust_categories))))))

-- behind what is asked and of which scheme stand the labels
pub asked_of : (x y : List ℕ) {ws rest : List (List ℕ)} (r : Result Question Fault) → ws ≡ x ∷ y ∷ rest → (q : Ask) → x ≡ called_ask q → (k : SchemeName) → y ≡ called_scheme k
    → Reads (Names k (word rest 0)) fault.First r (λ n. Rest (x ∷ y ∷ rest) q k n r) → Asked ws r
asked_of x y r e q asked k named labels = rw e (inl (q, asked, inl (k, named, labels)))
