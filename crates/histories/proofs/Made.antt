-- Runs are made call by call: no calls are a run, and a run with one more answered call is a run. Assumes nothing.
use Rattle.std.proofs.Common.{◌≡◌, ℕ, suc, ◌+◌, ◌<◌, ◌≤◌, cond, leb, List, [], ◌∷◌, ◌++◌, length, sym, refl, ap, ◌∙◌, subst, inl, inr, not-suc-le-zero, arith, length-append}
use mathlib.Core.Path.{subst₃}
use lib.ListN.{get_or-append}
use Rattle.std.proofs.lemmas.Bool.{cond-true, cond-false, le-leb, lt-leb, cases_eq}
use Rattle.std.proofs.lemmas.List.{get_or_at}
use Rattle.labels.specs.Meaning.{Meaning}
use Rattle.tables.specs.declared.types.Tables.{Tables}
use Rattle.calls.specs.declared.types.Call.{Call}
use Rattle.calls.specs.declared.types.Call.TheVariants.{Leave}
use Rattle.calls.specs.Calls.{Answer}
use Rattle.calls.specs.Effects.{after}
use Rattle.histories.specs.Runs.{call_at, answer_at, Run}

-- before the first call
pub run_empty : (m : Meaning) (roll : Tables) → Run m roll [] []
run_empty m roll = record {
  tables = λ k. roll;
  starts = refl;
  as_many = refl;
  answered = λ k h. absurd (not-suc-le-zero h);
  goes = λ k h. absurd (not-suc-le-zero h);
}

-- with one more call at the end
module _ {m : Meaning} {roll : Tables} {calls : List Call} {answers : List ℕ} (r : Run m roll calls answers) (c : Call) (a : ℕ) where
  abbrev more_tables : ℕ → Tables
  more_tables k = cond (leb k (length calls)) (r.tables k) (after (r.tables (length calls)) c a)

  old_tables : (k : ℕ) → k ≤ length calls → more_tables k ≡ r.tables k
  old_tables k h = cond-true (leb k (length calls)) _ _ (le-leb k (length calls) h)

  new_tables : more_tables (suc (length calls)) ≡ after (r.tables (length calls)) c a
  new_tables = cond-false (leb (suc (length calls)) (length calls)) _ _ (lt-leb (suc (length calls)) (length calls) (omega arith))

  more : length (calls ++ (c ∷ [])) ≡ suc (length calls)
  more = let e : length (calls ++ (c ∷ [])) ≡ length calls + 1 = length-append calls (c ∷ []) in omega arith

  old_call : (k : ℕ) → k < length calls → call_at (calls ++ (c ∷ [])) k ≡ call_at calls k
  old_call k h = get_or-append calls (c ∷ []) (Leave 0) k h

  old_answer : (k : ℕ) → k < length calls → answer_at (answers ++ (a ∷ [])) k ≡ answer_at answers k
  old_answer k h = get_or-append answers (a ∷ []) 1 k (let e = r.as_many in omega arith)

  new_call : call_at (calls ++ (c ∷ [])) (length calls) ≡ c
  new_call = get_or_at calls c [] (Leave 0) (length calls) refl

  new_answer : answer_at (answers ++ (a ∷ [])) (length calls) ≡ a
  new_answer = get_or_at answers a [] 1 (length calls) r.as_many

  -- what each call of the longer list has: those before had it, and the last has it
  each : (P : ℕ → Tables → Call → ℕ → Type 0)
      → ((k : ℕ) → k < length calls → P k (r.tables k) (call_at calls k) (answer_at answers k))
      → P (length calls) (r.tables (length calls)) c a
      → (k : ℕ) → k < length (calls ++ (c ∷ [])) → P k (more_tables k) (call_at (calls ++ (c ∷ [])) k) (answer_at (answers ++ (a ∷ [])) k)
  each P before last k h = elim (cases_eq (length calls) k) [
    | inl e ↦ subst (λ (i : ℕ). P i (more_tables i) (call_at (calls ++ (c ∷ [])) i) (answer_at (answers ++ (a ∷ [])) i)) e
        (subst₃ (P (length calls)) (sym (old_tables (length calls) (omega arith))) (sym new_call) (sym new_answer) last)
    | inr ne ↦ (let size = more in let lt : k < length calls = omega arith in
        subst₃ (P k) (sym (old_tables k (omega arith))) (sym (old_call k lt)) (sym (old_answer k lt)) (before k lt))
  ]

  pub run_snoc : Answer m (r.tables (length calls)) c a
      → (r' : Run m roll (calls ++ (c ∷ [])) (answers ++ (a ∷ []))) × (r'.tables (length (calls ++ (c ∷ []))) ≡ after (r.tables (length calls)) c a)
  run_snoc ok = (
    record {
      tables = more_tables;
      starts = old_tables 0 (omega arith) ∙ r.starts;
      as_many =
          (let e : length (calls ++ (c ∷ [])) ≡ length calls + 1 = length-append calls (c ∷ []) in
          let f : length (answers ++ (a ∷ [])) ≡ length answers + 1 = length-append answers (a ∷ []) in
          let g = r.as_many in omega arith);
      answered = each (λ k. Answer m) r.answered ok;
      goes = each (λ k t d b. more_tables (suc k) ≡ after t d b) (λ k h. old_tables (suc k) h ∙ r.goes k h) new_tables;
    },
    ap more_tables more ∙ new_tables,
  )
