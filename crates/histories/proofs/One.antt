-- A list of calls has one run from the same tables. Assumes nothing.
use Rattle.std.proofs.Common.{◌≡◌, ℕ, zero, suc, ◌<◌, ◌≤◌, List, length, sym, ap, ◌∙◌, subst, arith, ext_get_or}
use Rattle.labels.specs.Meaning.{Meaning}
use Rattle.tables.specs.declared.types.Tables.{Tables}
use Rattle.calls.specs.declared.types.Call.{Call}
use Rattle.calls.specs.Calls.{Answer}
use Rattle.calls.specs.Effects.{after}
use Rattle.calls.proofs.Firsts.{one_answer}
use Rattle.histories.specs.Runs.{call_at, answer_at, Run}

module _ {m : Meaning} {roll : Tables} {calls : List Call} {xs ys : List ℕ} (r : Run m roll calls xs) (s : Run m roll calls ys) where
  same_answer : (k : ℕ) → k < length calls → r.tables k ≡ s.tables k → answer_at xs k ≡ answer_at ys k
  same_answer k h e =
      one_answer m (s.tables k) (call_at calls k) (answer_at xs k) (answer_at ys k) (subst (λ (t : Tables). Answer m t (call_at calls k) (answer_at xs k)) e (r.answered k h)) (s.answered k h)

  pub same_tables : (k : ℕ) → k ≤ length calls → r.tables k ≡ s.tables k
  same_tables zero h = r.starts ∙ sym s.starts
  same_tables (suc k) h =
      let e = same_tables k (omega arith) in
      r.goes k h ∙ ap (λ (t : Tables). after t (call_at calls k) (answer_at xs k)) e ∙ ap (λ (a : ℕ). after (s.tables k) (call_at calls k) a) (same_answer k h e) ∙ sym (s.goes k h)

  pub one_run : xs ≡ ys
  one_run =
      ext_get_or 1 xs ys (r.as_many ∙ sym s.as_many)
      (λ k h. let lt : k < length calls = (let e = r.as_many in omega arith) in same_answer k lt (same_tables k (omega arith)))
