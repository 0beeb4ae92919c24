-- The lines of a text, one after another. Assumes nothing.
use Rattle.std.proofs.Common.{◌≡◌, ℕ, ◌+◌, ◌<◌, ◌≤◌, List, [], ◌∷◌, ◌++◌, length, sym, refl, ap, ◌∙◌, subst, append_assoc, inl, inr, arith, true, false, cond, eqb, ◌-◌, min, take, drop, take-append-drop, length-append, length-take-le, append-nil, ap₂, eqb-true, Some, None, Option, MatchOption, unwrap_or, Bor}
use Rattle.std.proofs.lemmas.Bool.{cases_eq, ne_eqb, eqb-false}
use Rattle.std.proofs.lemmas.List.{nil_from_length, get_or-take, drop_more}
use Rattle.std.proofs.Math.ListN.{get_or, get_or-append, drop_of_length-le}
use Rattle.std.specs.List.{IsFirstMatchOrLen}
use Rattle.std.specs.Cmp.Lexicographic.{pointwise, same_text, other_text}
use Rattle.notation.proofs.Cuts.{lacks_first, lacks_rest, lacks_more}
use Rattle.notation.specs.Texts.{Lacks, Lines, none, last, more, before}
use Rattle.calculator.specs.Lines.{lines_of}
use Rattle.calculator.specs.Replies.{Replied, Replies}

-- the first line ends at the first newline
pub lines_cut : (line rest : List ℕ) → Lacks 10 line → lines_of (line ++ (10 ∷ rest)) ≡ line ∷ lines_of rest
lines_cut [] rest h = refl
lines_cut (b ∷ line) rest h = rw (ne_eqb b 10 (lacks_first 10 b line h), lines_cut line rest (lacks_rest 10 b line h)) refl

-- and without one it is all of the text
pub lines_last : (line : List ℕ) → Lacks 10 line → 0 < length line → lines_of line ≡ line ∷ []
lines_last [] h some = absurd (omega arith)
lines_last (b ∷ []) h some = rw (ne_eqb b 10 (lacks_first 10 b [] h)) refl
lines_last (b ∷ (a ∷ line)) h some =
    rw (ne_eqb b 10 (lacks_first 10 b (a ∷ line) h), lines_last (a ∷ line) (lacks_rest 10 b (a ∷ line) h) (omega arith)) refl

-- A text is cut behind its first newline, or at its end where there is none.
module _ (rest line behind : List ℕ) (i : ℕ) (cut : rest ≡ line ++ behind) (long : length line ≡ min (i + 1) (length rest)) (some : 0 < length rest) (first : IsFirstMatchOrLen (λ b. eqb b 10) rest i) where
  same : (k : ℕ) → k < length line → get_or rest k 0 ≡ get_or line k 0
  same k h = ap (λ (l : List ℕ). get_or l k 0) cut ∙ get_or-append line behind 0 k h

  other : (k : ℕ) → k < i → k < length line → get_or line k 0 ≡ 10 → ⊥
  other k lt h e = eqb-false (get_or rest k 0) 10 (first.0 k 0 (omega arith) lt) (same k h ∙ e)

  ended : drop (length line - 1) line ≡ 10 ∷ [] → lines_of rest ≡ take (length line - 1) line ∷ lines_of behind
  ended e =
      let j = length line - 1 in
      let whole : rest ≡ take j line ++ (10 ∷ behind)
      = cut ∙ ap (λ (l : List ℕ). l ++ behind) (sym (take-append-drop j line)) ∙ ap (λ (l : List ℕ). (take j line ++ l) ++ behind) e ∙ append_assoc (take j line) (10 ∷ []) behind in
      let front : length (take j line) ≡ j = length-take-le j line (omega arith) in
      ap lines_of whole ∙ lines_cut (take j line) behind (λ k h q. other k (omega (arith, long, front, h)) (omega (arith, front, h)) (sym (get_or-take j line k 0 (omega (arith, front, h))) ∙ q))

  unended : (drop (length line - 1) line ≡ 10 ∷ [] → ⊥) → lines_of rest ≡ line ∷ lines_of behind
  unended n =
      let j = length line - 1 in
      let past : i < length rest → ⊥ = λ h.
      let at : j ≡ i = omega (arith, long, h) in
      let newline : get_or line j 0 ≡ 10 = sym (same j (omega (arith, long, h))) ∙ ap (λ (k : ℕ). get_or rest k 0) at ∙ eqb-true _ 10 (first.1 h 0) in
      n (drop_more line j 0 (omega (arith, long, h)) ∙ ap₂ (λ (b : ℕ) (l : List ℕ). b ∷ l) newline (drop_of_length-le line (omega arith))) in
      let none : behind ≡ [] = nil_from_length behind (omega (arith, long, past, ap length cut, length-append line behind)) in
      let whole : rest ≡ line = cut ∙ ap (λ (l : List ℕ). line ++ l) none ∙ append-nil line in
      ap lines_of whole ∙ lines_last line (λ k h q. other k (omega (arith, long, past, h)) h q) (omega (arith, long, some))
      ∙ ap (λ (l : List ℕ). line ∷ lines_of l) (sym none)

  -- without the newline that it may end in, the front is the first line
  pub first_line : (r : Option (Bor (List ℕ))) (d : Bor (List ℕ)) → d.now ≡ line
      → MatchOption r (pointwise eqb (drop (length line - 1) line) (10 ∷ []) ≡ false) (λ x. (pointwise eqb (drop (length line - 1) line) (10 ∷ []) ≡ true) × (x.now ≡ take (length line - 1) line) × (length x.now + 1 ≡ length line))
      → lines_of rest ≡ (unwrap_or r d).now ∷ lines_of behind
  first_line None d e m = unended (other_text (drop (length line - 1) line) (10 ∷ []) (sym m)) ∙ ap (λ (l : List ℕ). l ∷ lines_of behind) (sym e)
  first_line (Some x) d e m = ended (same_text (drop (length line - 1) line) (10 ∷ []) (sym m.0)) ∙ ap (λ (l : List ℕ). l ∷ lines_of behind) (sym m.1)

-- these are the lines of the text
longer_first : (b : ℕ) {bs : List ℕ} {lines : List (List ℕ)} → (b ≡ 10 → ⊥) → Lines bs lines → Lines (b ∷ bs) (before b lines)
longer_first b n none = last (lacks_more 10 b [] n (λ i lt. absurd (omega arith))) (omega arith)
longer_first b n (last {line} lacks some) = last (lacks_more 10 b line n lacks) (omega arith)
longer_first b n (more {line} lacks ls) = more (lacks_more 10 b line n lacks) ls

pub are_lines : (text : List ℕ) → Lines text (lines_of text)
are_lines [] = none
are_lines (b ∷ bs) =
    elim (cases_eq b 10) [
      | inl e ↦ rw (e) (more {line = []} (λ i lt. absurd (omega arith)) (are_lines bs))
      | inr n ↦ rw (ne_eqb b 10 n) (longer_first b n (are_lines bs))
    ]

before_longer : (b : ℕ) (lines : List (List ℕ)) → length (before b lines) ≤ 1 + length lines
before_longer b [] = omega arith
before_longer b (line ∷ lines) = omega arith

-- there are no more of them than bytes
pub lines_few : (text : List ℕ) → length (lines_of text) ≤ length text
lines_few [] = omega arith
lines_few (b ∷ bs) =
    let few = lines_few bs in
    elim (eqb b 10) as (λ t. length (cond t ([] ∷ lines_of bs) (before b (lines_of bs))) ≤ length (b ∷ bs)) [ true ↦ omega (arith, few) | false ↦ omega (arith, few, before_longer b (lines_of bs)) ]

-- a reply to the first of the lines that are left, and one that is put behind what is already written
pub replies_first : (n : ℕ) {m k : ℕ} (line : List ℕ) {lines left : List (List ℕ)} (reply out : List ℕ) → left ≡ line ∷ lines → m ≡ n → k ≡ n + 1 → Replied (m + 1) line reply → Replies k lines out
    → Replies n left (reply ++ out)
replies_first n line {lines = lines} reply out e f g replied rest =
    rw e (reply, out, refl, subst (λ (v : ℕ). Replied (v + 1) line reply) f replied, subst (λ (v : ℕ). Replies v lines out) g rest)

pub replies_after : (out reply rest : List ℕ) {after added : List ℕ} (lines : List (List ℕ)) → after ≡ out ++ added → added ≡ reply → Replies 0 lines (out ++ (reply ++ rest)) → Replies 0 lines (after ++ rest)
replies_after out reply rest lines e is = subst (Replies 0 lines) (sym (append_assoc out reply rest) ∙ ap (λ (bs : List ℕ). bs ++ rest) (sym (e ∙ ap (λ (bs : List ℕ). out ++ bs) is)))
