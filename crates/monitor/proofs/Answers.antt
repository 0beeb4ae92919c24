-- A roll has one answer, and what it left is saved as the roll. Assumes nothing.
use Rattle.std.proofs.Common.{◌≡◌, ℕ, zero, suc, true, List, ◌++◌, length, get_or, take, drop, replicate, is_some, IsErrAnd, IfOk, None, Ok, Err, Option, Result, sym, refl, ap, ◌∙◌, subst, inl, inr, arith, MatchResult}
use Rattle.std.proofs.lemmas.List.{take_at}
use Rattle.std.proofs.lemmas.Result.{err_from_is_err_and}
use Rattle.std.proofs.lemmas.Bool.{false≢true}
use Rattle.tables.specs.declared.types.Subject.{Subject}
use Rattle.std.specs.List.{flat_map}
use Rattle.labels.specs.Meaning.{Meaning, Lawful}
use Rattle.tables.specs.State.{blank}
use Rattle.tables.specs.declared.types.Tables.{Tables}
use Rattle.records.specs.Records.{encode}
use Rattle.records.specs.declared.forms.RecordFault.{RecordFault}
use Rattle.sound.specs.Sound.{Sound, FirstFailing}
use Rattle.sound.specs.declared.clauses.Clause.TheVariants.{Groups, Labels, Tree, Owners, Lists, Administrator, Nesting, Mixed}
use Rattle.sound.proofs.Firsts.{first_unique, first_unsound}
use Rattle.roll.specs.Formed.{Formed, alone}
use Rattle.roll.specs.Slots.{records_of}
use Rattle.roll.specs.Rolls.{Says}
use Rattle.roll.proofs.Sure.{sure}
use Rattle.roll.proofs.Trips.{taken_saved, saved_taken, saved_roll}
use Rattle.saving.specs.declared.saves.NoRoom.{NoRoom}
use Rattle.monitor.specs.declared.faults.RollFault.{RollFault}
use Rattle.monitor.specs.declared.faults.RollFault.TheVariants as of_roll
use Rattle.monitor.specs.Loads.{Tells, Loads, OneAnswer, Steady, Returns}
use Rattle.histories.specs.Kept.{Kept}
use Rattle.histories.proofs.Steadiness.{steady_blank, steady_after}
use Rattle.calls.specs.declared.types.Call.{Call}
use Rattle.calls.specs.Calls.{Answer}
use Rattle.calls.specs.declared.types.Refusal.{Refusal}
use Rattle.calls.specs.declared.types.Refusal.TheVariants.{NobodyThere, SeatTaken, NoLabel, WrongKind, NoRight, NotListed, WrongWay, OutOfRange, WontNest, StillRigged}
use Rattle.calls.specs.Effects.{effect, after}
use Rattle.calls.specs.Refusals.{refusal_number}
use Rattle.monitor.specs.Decides.{Decided}
use Rattle.saving.specs.Saves.{saved, Stored, Refused}

says_ok : (bytes : List ℕ) (t u : Tables) → Says bytes (Ok t) → Says bytes (Ok u) → t ≡ u
says_ok bytes t u a b = let e = sure bytes (Ok t) (Ok u) a b in cc

says_err : (bytes : List ℕ) (f g : RecordFault) → Says bytes (Err f) → Says bytes (Err g) → f ≡ g
says_err bytes f g a b = let e = sure bytes (Err f) (Err g) a b in cc

never : (bytes : List ℕ) (t : Tables) (f : RecordFault) → Says bytes (Ok t) → Says bytes (Err f) → ⊥
never bytes t f a b = let e = sure bytes (Ok t) (Err f) a b in let z : ◌≡◌ {A = ℕ} 0 1 = cc in omega arith

-- what the bytes tell is one thing
pub one_telling : (m : Meaning) (bytes : List ℕ) (r s : Result Tables RollFault) → Tells m bytes r → Tells m bytes s → r ≡ s
one_telling m bytes (Ok t) (Ok u) a b = ap (λ (x : Tables). Ok x) (says_ok bytes t u a.0 b.0)
one_telling m bytes (Ok t) (Err (of_roll.Record f)) a b = absurd (never bytes t f a.0 b)
one_telling m bytes (Ok t) (Err (of_roll.Unsound c n)) a b =
    absurd (first_unsound m b.1.0 b.1.2 (subst (Sound m) (says_ok bytes t b.1.0 a.0 b.1.1) a.1))
one_telling m bytes (Err (of_roll.Record f)) (Ok u) a b = absurd (never bytes u f b.0 a)
one_telling m bytes (Err (of_roll.Record f)) (Err (of_roll.Record g)) a b = ap (λ (x : RecordFault). Err (of_roll.Record x)) (says_err bytes f g a b)
one_telling m bytes (Err (of_roll.Record f)) (Err (of_roll.Unsound c n)) a b = absurd (never bytes b.1.0 f b.1.1 a)
one_telling m bytes (Err (of_roll.Unsound c n)) (Ok u) a b =
    absurd (first_unsound m a.1.0 a.1.2 (subst (Sound m) (says_ok bytes u a.1.0 b.0 a.1.1) b.1))
one_telling m bytes (Err (of_roll.Unsound c n)) (Err (of_roll.Record f)) a b = absurd (never bytes a.1.0 f a.1.1 b)
one_telling m bytes (Err (of_roll.Unsound c n)) (Err (of_roll.Unsound d k)) a b =
    let same : a.1.0 ≡ b.1.0 = says_ok bytes a.1.0 b.1.0 a.1.1 b.1.1 in
    let clause : c ≡ d = first_unique m b.1.0 (subst (λ (t : Tables). FirstFailing m t c) same a.1.2) b.1.2 in
    let long : n ≡ k = a.0 ∙ sym b.0 in
    λ i. Err (of_roll.Unsound (clause i) (long i))

pub one_answer : (m : Meaning) → OneAnswer m
one_answer m bytes (Ok x) (Ok y) t u a b = (refl, says_ok bytes t u a.0 b.0)
one_answer m bytes (Ok x) (Err g) t u a b = let e = one_telling m bytes (Ok t) (Err g) a b.0 in let z : ◌≡◌ {A = ℕ} 0 1 = cc in absurd (omega arith)
one_answer m bytes (Err f) (Ok y) t u a b = let e = one_telling m bytes (Err f) (Ok u) a.0 b in let z : ◌≡◌ {A = ℕ} 0 1 = cc in absurd (omega arith)
one_answer m bytes (Err f) (Err g) t u a b = let e = one_telling m bytes (Err f) (Err g) a.0 b.0 in let same : f ≡ g = cc in (ap (λ (x : RollFault). Err x) same, a.1 ∙ sym b.1)

-- what a roll said is saved as the roll
pub says_saved : (bytes : List ℕ) (t : Tables) → Says bytes (Ok t) → saved t ≡ bytes
says_saved bytes t (rs, roll, e, is) = ap saved is ∙ ap (flat_map encode) (taken_saved rs roll) ∙ sym e

pub blank_kept : (m : Meaning) (t : Tables) → t ≡ blank → Kept m t
blank_kept m t e = subst (Kept m) (sym e) (steady_blank m)

-- what is kept can be written as a roll, and is blank or sound
pub steady_kept : (m : Meaning) (t : Tables) → Kept m t → Steady m t
steady_kept m t k = record { formed = k.formed; either = k.either }

-- without its subjects a sound state is sound
sound_alone : (m : Meaning) (t : Tables) → Sound m t → Sound m (alone t)
sound_alone m t sound Groups = record { users = (sound Groups).users; objects = (sound Groups).objects }
sound_alone m t sound Labels = record { users = (sound Labels).users; subjects = λ s h. absurd (no_subject 32 s h); objects = (sound Labels).objects }
  where
    no_subject : (n s : ℕ) → is_some (get_or {A = Option Subject} (replicate n None) s None) ≡ true → ⊥
    no_subject zero s h = false≢true h
    no_subject (suc n) zero h = false≢true h
    no_subject (suc n) (suc s) h = no_subject n s h
sound_alone m t sound Tree = record { root = (sound Tree).root; own = (sound Tree).own; placed = λ o h. let p = (sound Tree).placed o h in record { parent = p.parent; way = p.way } }
sound_alone m t sound Owners = record { owners = (sound Owners).owners; holders = (sound Owners).holders }
sound_alone m t sound Lists = sound Lists
sound_alone m t sound Administrator = sound Administrator
sound_alone m t sound Nesting = sound Nesting
sound_alone m t sound Mixed = sound Mixed

-- what formed and sound tables are saved as loads back
pub loads_back : (m : Meaning) (t : Tables) → Formed t → Sound m t → Loads m (saved t) (Ok tt) (alone t)
loads_back m t formed sound = ((records_of t, saved_roll t formed, refl, sym (saved_taken t formed.sized)), sound_alone m t sound)

pub returns_saved : (m : Meaning) (t : Tables) (buf rest : List ℕ) (n : ℕ) → Steady m t → n ≡ length (saved t) → buf ≡ saved t ++ rest → Returns m t buf (Ok n)
returns_saved m t buf rest n steady long e = elim steady.either [
  | inl none ↦ inl (none, long ∙ ap (λ (x : Tables). length (saved x)) none)
  | inr sound ↦ inr (subst (λ (bs : List ℕ). Loads m bs (Ok tt) (alone t)) (sym (ap (take n) e ∙ take_at (saved t) rest n (sym long))) (loads_back m t steady.formed sound))
]

pub save_blank : (t : Tables) (r : Result ℕ NoRoom) (before after : List ℕ) → MatchResult r (Stored (saved t) before after) (λ _. Refused (saved t) before after) → t ≡ blank → IfOk r (λ n. n ≡ 0)
save_blank t (Ok n) before after s e = s.all ∙ ap (λ (x : Tables). length (saved x)) e
save_blank t (Err x) before after s e = tt

pub save_back : (m : Meaning) (t : Tables) (r : Result ℕ NoRoom) (before after : List ℕ) → MatchResult r (Stored (saved t) before after) (λ _. Refused (saved t) before after) → Steady m t → Returns m t after r
save_back m t (Ok n) before after s steady = returns_saved m t after (drop n before) n steady s.all s.there
save_back m t (Err x) before after s steady = tt

-- a call that was granted and applied is decided
pub granted : (m : Meaning) → Lawful m → (t : Tables) (c : Call) (u : Tables) → Answer m t c 0 → u ≡ effect t c → Decided m t c (Ok tt) u
granted m laws t c u fine e = record { answer = fine; leaves = e; kept = λ s. subst (Kept m) (sym e) (steady_after m laws t c 0 fine s) }

-- a refused call leaves the tables
left_alone : (t : Tables) (c : Call) (e : Refusal) → t ≡ after t c (refusal_number e)
left_alone t c NobodyThere = refl
left_alone t c SeatTaken = refl
left_alone t c NoLabel = refl
left_alone t c WrongKind = refl
left_alone t c NoRight = refl
left_alone t c NotListed = refl
left_alone t c WrongWay = refl
left_alone t c OutOfRange = refl
left_alone t c WontNest = refl
left_alone t c StillRigged = refl

-- a call that was refused is decided
pub refused : (m : Meaning) (t : Tables) (c : Call) (e : Refusal) (r : Result (Unit {0}) Refusal) → Answer m t c (refusal_number e) → IsErrAnd r (λ x. x ≡ e) → Decided m t c r t
refused m t c e r answer by =
    let is = err_from_is_err_and r by in
    subst (λ (x : Result (Unit {0}) Refusal). Decided m t c x t) (sym (is.1 ∙ ap (λ (x : Refusal). Err x) is.2)) (record { answer = answer; leaves = left_alone t c e; kept = λ s. s })
