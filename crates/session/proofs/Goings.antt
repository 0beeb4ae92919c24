-- Calls that are answered one after another. Assumes nothing.
use Rattle.std.proofs.Common.{◌≡◌, ℕ, suc, ◌+◌, ◌*◌, ◌/◌, ◌<◌, ◌≤◌, List, [], ◌∷◌, ◌++◌, length, get_or, drop, set, Ok, Err, Option, Result, sym, refl, ap, ◌∙◌, subst, append_assoc, arith, length-append, drop-cons}
use lib.Seq.{set_at}
use Rattle.std.specs.List.{flat_map}
use Rattle.labels.specs.Meaning.{Meaning}
use Rattle.tables.specs.declared.types.Tables.{Tables}
use Rattle.byte_cursor.specs.declared.cursors.Cursor.{Cursor}
use Rattle.byte_cursor.specs.Bytes.{left, Took}
use Rattle.calls.specs.declared.types.Call.{Call}
use Rattle.calls.specs.declared.types.Refusal.{Refusal}
use Rattle.calls.specs.Calls.{Answer}
use Rattle.calls.specs.Effects.{after}
use Rattle.calls.specs.Refusals.{answer_number}
use Rattle.histories.specs.Runs.{Run}
use Rattle.histories.specs.Promises.{AllSecure}
use Rattle.histories.specs.Kept.{Kept}
use Rattle.histories.proofs.One.{one_run, same_tables}
use Rattle.histories.proofs.Promised.{run_empty, run_snoc}
use Rattle.stream.specs.declared.faults.CallFault.{CallFault}
use Rattle.stream.specs.Forms.{encode, InForm}
use Rattle.stream.specs.Faults.{Faulty}
use Rattle.stream.proofs.Steps.{Sofar, sofar_start, sofar_more, sofar_fault, sofar_done}
use Rattle.monitor.specs.Decides.{Decided}
use Rattle.monitor.specs.Loads.{Tells}
use Rattle.monitor.proofs.Answers.{one_answer, one_telling}
use Rattle.monitor.specs.declared.faults.RollFault.{RollFault}
use Rattle.stream.proofs.Sure.{one_reading}
use Rattle.session.specs.declared.outcomes.Stop.TheVariants.{BadCall, BadRoll, NoRoom}
use Rattle.session.specs.Sessions.{End, Answered, Session, Stretch, Ran, OneRun, OneOutcome}

-- n calls were answered from the tables `start` on, which are now t; the cursor stands behind the calls, and the buffer holds their answers
pub record Going (m : Meaning) (start : Tables) (stream : List ℕ) (c : Cursor) (n : ℕ) (before now : List ℕ) (t : Tables) : Type 0 where
  pub calls : List Call
  pub answers : List ℕ
  pub sofar : Sofar stream c calls
  pub run : Run m start calls answers
  pub ends : run.tables (length calls) ≡ t
  pub counted : n ≡ length calls
  pub written : now ≡ answers ++ drop n before
  pub kept : Kept m start → Kept m t

pub going_start : (m : Meaning) (start : Tables) (stream before : List ℕ) (c : Cursor) → c.bytes.now ≡ stream → c.place ≡ 0 → Going m start stream c 0 before before start
going_start m start stream before c e p = record {
  calls = [];
  answers = [];
  sofar = sofar_start stream c e p;
  run = run_empty m start;
  ends = (run_empty m start).starts;
  counted = refl;
  written = refl;
  kept = λ s. s;
}

-- each call takes at least two bytes
two_each : (xs : List Call) → 2 * length xs ≤ length (flat_map encode xs)
two_each [] = omega arith
two_each (x ∷ xs) =
    let e : length (flat_map encode (x ∷ xs)) ≡ length (encode x) + length (flat_map encode xs) = length-append (encode x) (flat_map encode xs) in
    let k = two_each xs in
    omega arith

module _ {m : Meaning} {start : Tables} {stream : List ℕ} {a : Cursor} {n : ℕ} {before now : List ℕ} {t : Tables} (go : Going m start stream a n before now t) where
  -- so there is room for one more answer
  pub room : {b : Cursor} (x : Call) → Took a b (encode x) → length stream / 2 ≤ length before → n < length before
  room {b} x k wide =
      let e : length stream ≡ length (flat_map encode go.calls) + length (left a) = ap length go.sofar.split ∙ length-append (flat_map encode go.calls) (left a) in
      let f : length (left a) ≡ length (encode x) + length (left b) = ap length k.split ∙ length-append (encode x) (left b) in
      let each = two_each go.calls in
      let is = go.counted in
      omega arith

  one_more : (v : ℕ) → n < length before → set (go.answers ++ drop n before) n v ≡ (go.answers ++ v ∷ []) ++ drop (n + 1) before
  one_more v h =
      let l = go.answers in
      let long : length l ≡ n = go.run.as_many ∙ sym go.counted in
      let s : suc n ≡ n + 1 = omega arith in
      ap (λ (r : List ℕ). set (l ++ r) n v) (drop-cons before n 0 h)
      ∙ set_at l (get_or before n 0) (drop (suc n) before) v n long
      ∙ sym (append_assoc l (v ∷ []) (drop (suc n) before))
      ∙ ap (λ (k : ℕ). (l ++ v ∷ []) ++ drop k before) s

  -- one more call was read, decided, and its answer written
  pub going_more : {b : Cursor} {u : Tables} {now' : List ℕ} (x : Call) (r : Result (Unit {0}) Refusal) → InForm x → Took a b (encode x) → Decided m t x r u
      → n < length before → now' ≡ set now n (answer_number r) → Going m start stream b (n + 1) before now' u
  going_more {b} {u} x r form took done h e =
      let v = answer_number r in
      let more = run_snoc go.run x v (subst (λ (w : Tables). Answer m w x v) (sym go.ends) done.answer) in
      record {
        calls = go.calls ++ x ∷ [];
        answers = go.answers ++ v ∷ [];
        sofar = sofar_more go.sofar x form took;
        run = more.0;
        ends = more.1 ∙ ap (λ (w : Tables). after w x v) go.ends ∙ sym done.leaves;
        counted = (let k : length (go.calls ++ x ∷ []) ≡ length go.calls + 1 = length-append go.calls (x ∷ []) in let is = go.counted in omega arith);
        written = e ∙ ap (λ (l : List ℕ). set l n v) go.written ∙ one_more v h;
        kept = λ s. done.kept (go.kept s);
      }

  -- nothing is left, or the next call cannot be read
  pub going_done : left a ≡ [] → Stretch m start stream n (Ok tt) before now t
  going_done none = record {
    calls = go.calls;
    answers = go.answers;
    streams = sofar_done go.sofar none;
    run = go.run;
    ends = go.ends;
    counted = go.counted;
    written = go.written;
  }

  pub going_bad : (f : CallFault) → 0 < length (left a) → Faulty a.place (left a) f → Stretch m start stream n (Err (BadCall f)) before now t
  going_bad f more w = record {
    calls = go.calls;
    answers = go.answers;
    streams = sofar_fault go.sofar f more w;
    run = go.run;
    ends = go.ends;
    counted = go.counted;
    written = go.written;
  }

-- from a roll that was taken
pub from_roll : (m : Meaning) (roll stream : List ℕ) (start : Tables) (n : ℕ) (end : End) (before now : List ℕ) (t u : Tables) → length stream / 2 ≤ length before
    → Tells m roll (Ok start) → AllSecure m start → Stretch m start stream n end before now u → Ran m roll stream n end before now t u
from_roll m roll stream start n (Err NoRoom) before now t u wide taken all s = absurd s
from_roll m roll stream start n (Err (BadRoll f)) before now t u wide taken all s = absurd s
from_roll m roll stream start n (Err (BadCall f)) before now t u wide taken all s = (wide, record { start = start; taken = taken; answered = s; secure = all s.calls s.answers s.run; all_secure = all })
from_roll m roll stream start n (Ok x) before now t u wide taken all s = (wide, record { start = start; taken = taken; answered = s; secure = all s.calls s.answers s.run; all_secure = all })

-- a roll and a stream have one outcome
pub one : (m : Meaning) → OneRun m
one m roll stream t u xs ys e f p q tells told reads read r s =
    let same : t ≡ u = (one_answer m roll (Ok tt) (Ok tt) t u tells told).1 in
    let calls = one_reading stream xs ys e f reads read in
    (one_run (subst (λ (l : List Call). Run m u l p) calls.0 (subst (λ (w : Tables). Run m w xs p) same r)) s, calls.1)

-- there is room for the answers in the buffer that holds them
answered_fits : {m : Meaning} {start : Tables} {stream : List ℕ} {end : Option CallFault} {n : ℕ} {before after : List ℕ} {last : Tables} → Answered m start stream end n before after last → n ≤ length after
answered_fits {n} {before} {after} a =
    let e : length after ≡ length a.answers + length (drop n before) = ap length a.written ∙ length-append a.answers (drop n before) in
    let f = a.run.as_many in
    let is = a.counted in
    omega arith

pub stretch_fits : (m : Meaning) (start : Tables) (stream : List ℕ) (n : ℕ) (end : End) (before after : List ℕ) (last : Tables) → Stretch m start stream n end before after last → n ≤ length after
stretch_fits m start stream n (Err NoRoom) before after last s = absurd s
stretch_fits m start stream n (Err (BadRoll f)) before after last s = absurd s
stretch_fits m start stream n (Err (BadCall f)) before after last s = answered_fits s
stretch_fits m start stream n (Ok x) before after last s = answered_fits s

-- what is refused is not taken
refused_taken : (m : Meaning) (roll : List ℕ) (f : RollFault) (t : Tables) → Tells m roll (Err f) → Tells m roll (Ok t) → ⊥
refused_taken m roll f t a b = let e = one_telling m roll (Err f) (Ok t) a b in let z : ◌≡◌ {A = ℕ} 0 1 = cc in omega arith

-- two runs of the same calls from the same tables end in the same tables
last_same : {m : Meaning} {t u : Tables} {xs ys : List Call} {p q : List ℕ} → t ≡ u → xs ≡ ys → (r : Run m t xs p) (s : Run m u ys q) → r.tables (length xs) ≡ s.tables (length ys)
last_same {m} {t} {u} {xs} {ys} {p} {q} et ec =
    subst (λ (v : Tables). (r : Run m t xs p) (s : Run m v ys q) → r.tables (length xs) ≡ s.tables (length ys)) et
    (subst (λ (l : List Call). (r : Run m t xs p) (s : Run m t l q) → r.tables (length xs) ≡ s.tables (length l)) ec (λ r s. same_tables r s (length xs) (omega arith)))

-- two sessions of one roll and stream have one outcome
module _ {m : Meaning} {roll stream before : List ℕ} {n k : ℕ} {e f : Option CallFault} {after later : List ℕ} {u w : Tables} (a : Session m roll stream e n before after u) (b : Session m roll stream f k before later w) where
  start_same : a.start ≡ b.start
  start_same = (one_answer m roll (Ok tt) (Ok tt) a.start b.start a.taken b.taken).1

  streams_same : (a.answered.calls ≡ b.answered.calls) × (e ≡ f)
  streams_same = one_reading stream a.answered.calls b.answered.calls e f a.answered.streams b.answered.streams

  -- the first run, as one of the second's calls from the second's tables on
  moved : Run m b.start b.answered.calls a.answered.answers
  moved = subst (λ (l : List Call). Run m b.start l a.answered.answers) streams_same.0 (subst (λ (t : Tables). Run m t a.answered.calls a.answered.answers) start_same a.answered.run)

  answers_same : a.answered.answers ≡ b.answered.answers
  answers_same = one_run moved b.answered.run

  counts_same : n ≡ k
  counts_same = a.answered.counted ∙ ap length streams_same.0 ∙ sym b.answered.counted

  buffers_same : after ≡ later
  buffers_same = a.answered.written ∙ ap (λ (l : List ℕ). l ++ drop n before) answers_same ∙ ap (λ (i : ℕ). b.answered.answers ++ drop i before) counts_same ∙ sym b.answered.written

  tables_same : u ≡ w
  tables_same = sym a.answered.ends ∙ last_same start_same streams_same.0 a.answered.run b.answered.run ∙ b.answered.ends

  same_rest : (n ≡ k) × (after ≡ later) × (u ≡ w)
  same_rest = (counts_same, buffers_same, tables_same)

-- so a roll, a stream and a buffer have one outcome
pub one_outcome : (m : Meaning) → OneOutcome m
one_outcome m roll stream before t n k (Err NoRoom) (Err NoRoom) after later u w a b = (a.1 ∙ sym b.1, refl, a.2 ∙ sym b.2, a.3 ∙ sym b.3)
one_outcome m roll stream before t n k (Err NoRoom) (Err (BadRoll g)) after later u w a b = absurd (let x = a.0 in let y = b.0 in omega (arith, x, y))
one_outcome m roll stream before t n k (Err NoRoom) (Err (BadCall g)) after later u w a b = absurd (let x = a.0 in let y = b.0 in omega (arith, x, y))
one_outcome m roll stream before t n k (Err NoRoom) (Ok z) after later u w a b = absurd (let x = a.0 in let y = b.0 in omega (arith, x, y))
one_outcome m roll stream before t n k (Err (BadRoll f)) (Err NoRoom) after later u w a b = absurd (let x = a.0 in let y = b.0 in omega (arith, x, y))
one_outcome m roll stream before t n k (Err (BadCall f)) (Err NoRoom) after later u w a b = absurd (let x = a.0 in let y = b.0 in omega (arith, x, y))
one_outcome m roll stream before t n k (Ok z) (Err NoRoom) after later u w a b = absurd (let x = a.0 in let y = b.0 in omega (arith, x, y))
one_outcome m roll stream before t n k (Err (BadRoll f)) (Err (BadRoll g)) after later u w a b =
    let e = one_telling m roll (Err f) (Err g) a.1 b.1 in
    let same : f ≡ g = cc in
    (a.2 ∙ sym b.2, ap (λ (x : RollFault). Err (BadRoll x)) same, a.3 ∙ sym b.3, a.4 ∙ sym b.4)
one_outcome m roll stream before t n k (Err (BadRoll f)) (Err (BadCall g)) after later u w a b = absurd (refused_taken m roll f b.1.start a.1 b.1.taken)
one_outcome m roll stream before t n k (Err (BadRoll f)) (Ok z) after later u w a b = absurd (refused_taken m roll f b.1.start a.1 b.1.taken)
one_outcome m roll stream before t n k (Err (BadCall g)) (Err (BadRoll f)) after later u w a b = absurd (refused_taken m roll f a.1.start b.1 a.1.taken)
one_outcome m roll stream before t n k (Ok z) (Err (BadRoll f)) after later u w a b = absurd (refused_taken m roll f a.1.start b.1 a.1.taken)
one_outcome m roll stream before t n k (Err (BadCall f)) (Err (BadCall g)) after later u w a b =
    let e = (streams_same a.1 b.1).1 in
    let same : f ≡ g = cc in
    let r = same_rest a.1 b.1 in (r.0, ap (λ (x : CallFault). Err (BadCall x)) same, r.1, r.2)
one_outcome m roll stream before t n k (Err (BadCall f)) (Ok z) after later u w a b = absurd (let e = (streams_same a.1 b.1).1 in let z : ◌≡◌ {A = ℕ} 0 1 = cc in omega arith)
one_outcome m roll stream before t n k (Ok z) (Err (BadCall f)) after later u w a b = absurd (let e = (streams_same a.1 b.1).1 in let z : ◌≡◌ {A = ℕ} 0 1 = cc in omega arith)
one_outcome m roll stream before t n k (Ok y) (Ok z) after later u w a b = let r = same_rest a.1 b.1 in (r.0, refl, r.1, r.2)
