-- The lines of answers one after another, and what a run printed. Assumes nothing.
use Rattle.std.proofs.Common.{◌≡◌, ℕ, suc, ◌+◌, ◌/◌, ◌<◌, List, [], ◌∷◌, ◌++◌, length, get_or, take, drop, Ok, Err, Option, sym, ap, ◌∙◌, append_assoc, append-nil, arith, length-take-le, take-suc, take_at}
use Rattle.labels.specs.Meaning.{Meaning}
use Rattle.tables.specs.declared.types.Tables.{Tables}
use Rattle.stream.specs.declared.faults.CallFault.{CallFault}
use Rattle.session.specs.declared.outcomes.Stop.TheVariants.{BadCall, BadRoll, NoRoom}
use Rattle.session.specs.Sessions.{End, Session, Ran}
use Rattle.transcript.specs.Printed.{line_of, lines_from, final_line, end_line, Printed, refused, taken}

-- one more line at the end
lines_snoc : (j : ℕ) (xs : List ℕ) (a : ℕ) → lines_from j (xs ++ a ∷ []) ≡ lines_from j xs ++ line_of (j + length xs) a
lines_snoc j [] a = let e : j ≡ j + 0 = omega arith in append-nil (line_of j a) ∙ ap (λ (k : ℕ). line_of k a) e
lines_snoc j (x ∷ xs) a =
    let e : suc j + length xs ≡ j + suc (length xs) = omega arith in
    ap (λ (l : List ℕ). line_of j x ++ l) (lines_snoc (suc j) xs a ∙ ap (λ (k : ℕ). lines_from (suc j) xs ++ line_of k a) e)
    ∙ sym (append_assoc (line_of j x) (lines_from (suc j) xs) (line_of (j + suc (length xs)) a))

pub stepped : (l : List ℕ) (k : ℕ) (out more : List ℕ) → k < length l → out ≡ lines_from 0 (take k l) → more ≡ out ++ line_of k (get_or l k 0) → more ≡ lines_from 0 (take (k + 1) l)
stepped l k out more h sofar e =
    let long : length (take k l) ≡ k = length-take-le k l (omega arith) in
    let s : suc k ≡ k + 1 = omega arith in
    let z : k ≡ 0 + length (take k l) = omega (arith, long) in
    let line : ℕ → List ℕ = λ n. line_of n (get_or l k 0) in
    e ∙ ap (λ (a : List ℕ). a ++ line k) sofar ∙ ap (λ (n : ℕ). lines_from 0 (take k l) ++ line n) z
    ∙ sym (lines_snoc 0 (take k l) (get_or l k 0)) ∙ ap (lines_from 0) (sym (take-suc l k 0 h)) ∙ ap (λ (n : ℕ). lines_from 0 (take n l)) s

module _ {m : Meaning} {roll stream : List ℕ} {n : ℕ} {before after : List ℕ} {u : Tables} where
  -- the front of the buffer is the answers
  front : {end : Option CallFault} (s : Session m roll stream end n before after u) → take n after ≡ s.answered.answers
  front s =
      let a = s.answered in
      ap (take n) a.written ∙ take_at a.answers (drop n before) n (a.run.as_many ∙ sym a.counted)

  spoken : {end : Option CallFault} {lines last out : List ℕ} → Session m roll stream end n before after u → lines ≡ lines_from 0 (take n after) → last ≡ end_line end → out ≡ lines ++ last → Printed m roll stream out
  spoken {end} {lines} {last} s ls la o =
      let a = s.answered in
      taken s.start a.calls a.answers end s.taken a.streams a.run s.secure (o ∙ ap (λ (x : List ℕ). x ++ last) (ls ∙ ap (lines_from 0) (front s)) ∙ ap (λ (x : List ℕ). lines_from 0 a.answers ++ x) la)

-- the lines of the answers and the last line are what is printed, where the buffer had room
pub printed : (m : Meaning) (roll stream : List ℕ) (n : ℕ) (end : End) (before after : List ℕ) (t u : Tables) (lines last out : List ℕ) → Ran m roll stream n end before after t u
    → length before ≡ length stream / 2 → lines ≡ lines_from 0 (take n after) → last ≡ final_line end → out ≡ lines ++ last → Printed m roll stream out
printed m roll stream n (Err NoRoom) before after t u lines last out ran room ls la o = absurd (let h = ran.0 in omega arith)
printed m roll stream n (Err (BadRoll f)) before after t u lines last out (wide, tells, none, same, blank) room ls la o =
    refused f tells (o ∙ ap (λ (x : List ℕ). x ++ last) (ls ∙ ap (λ (k : ℕ). lines_from 0 (take k after)) none) ∙ la)
printed m roll stream n (Err (BadCall f)) before after t u lines last out ran room ls la o = spoken ran.1 ls la o
printed m roll stream n (Ok x) before after t u lines last out ran room ls la o = spoken ran.1 ls la o
