-- Runs of a guard, parties, what calls carry from one to another, and chains. Assumes nothing.
use Rattle.std.specs.Prelude.{◌≡◌, ℕ, zero, suc, ◌<◌, ◌≤◌, true, List, length, ◌≢◌, slice_index_or}
use Rattle.labels.specs.Meaning.{Meaning}
use Rattle.tables.specs.Sets.{has}
use Rattle.tables.specs.declared.types.Tables.{Tables}
use Rattle.tables.specs.State.{user}
use Rattle.calls.specs.declared.types.Call.{Call}
use Rattle.calls.specs.declared.types.Call.TheVariants.{Leave, Allow, Bar}
use Rattle.calls.specs.Calls.{Answer}
use Rattle.calls.specs.Effects.{after}
use Rattle.histories.specs.Carries.{Sort, an_object, present, label_of, Goal, standing, made, carries, Among, Makes, Ends}

-- call k of a list, counted from 0, and its answer; what stands for those past the end is never looked at
abbrev pub call_at : List Call → ℕ → Call
call_at calls k = slice_index_or calls k (Leave 0)

abbrev pub answer_at : List ℕ → ℕ → ℕ
answer_at answers k = slice_index_or answers k 1

-- A run from a roll's tables: each call in turn gets its defined answer on the tables so reached and, if granted, sets what it is said to set.
-- `tables k` are the tables before call k.
pub record Run (m : Meaning) (roll : Tables) (calls : List Call) (answers : List ℕ) : Type 0 where
  pub tables : ℕ → Tables
  pub starts : tables 0 ≡ roll
  pub as_many : length answers ≡ length calls
  pub answered : (k : ℕ) → k < length calls → Answer m (tables k) (call_at calls k) (answer_at answers k)
  pub goes : (k : ℕ) → k < length calls → tables (suc k) ≡ after (tables k) (call_at calls k) (answer_at answers k)

-- A party: a subject or an object, its number, and since when: 0 if the roll gave it, k + 1 if call k made it.
-- So a number given again is a new party.
pub record Party : Type 0 where
  pub sort : Sort
  pub number : ℕ
  pub since : ℕ

module _ {m : Meaning} {roll : Tables} {calls : List Call} {answers : List ℕ} (r : Run m roll calls answers) where
  -- call k was made, and granted
  abbrev pub Granted : ℕ → Type 0
  Granted k = (k < length calls) × (answer_at answers k ≡ 0)

  -- what made a party of this sort and number: the roll, which has objects only, or a granted call
  abbrev pub Begun : Sort → ℕ → ℕ → Type 0
  Begun s n zero = (s ≡ an_object) × (present roll s n ≡ true)
  Begun s n (suc k) = Granted k × Makes (call_at calls k) s n

  -- the party stands before call k: it was made, and no granted call ended it since
  pub record Stands (k : ℕ) (p : Party) : Type 0 where
    pub begun : Begun p.sort p.number p.since
    pub before : p.since ≤ k
    pub unended : (j : ℕ) → p.since ≤ j → j < k → Granted j → Ends (call_at calls j) p.sort p.number → ⊥

  -- the party's label before call k
  abbrev pub label_at : ℕ → Party → ℕ
  label_at k p = label_of (r.tables k) p.sort p.number

  -- the party that a flow of call k leads to: one that stands, or the one that call k makes
  abbrev pub Reaches : ℕ → Goal → Party → Type 0
  Reaches k (standing s n) p = (p.sort ≡ s) × (p.number ≡ n) × Stands k p
  Reaches k (made s n l) p = (p.sort ≡ s) × (p.number ≡ n) × (p.since ≡ suc k)

  -- call k was granted and carries from p to q
  pub record Carries (k : ℕ) (p q : Party) : Type 0 where
    pub granted : Granted k
    pub goal : Goal
    pub stood : Stands k p
    pub along : Among (carries (r.tables k) (call_at calls k)) p.sort p.number goal
    pub reached : Reaches k goal q

  -- A chain from p, whose first call is i, to q, whose last call is k: granted calls in ascending order, each carrying from where the one before
  -- arrived. That a party in between stands from the call that reaches it to the call that carries on from it is part of `Carries`: the same
  -- party, since the same call, stood before that call.
  pub data Chain (p : Party) (i : ℕ) : Party → ℕ → Type 0 where
    first : {q : Party} → Carries i p q → Chain p i q i
    onward : {q w : Party} {j k : ℕ} → Chain p i q j → j < k → Carries k q w → Chain p i w k

  -- no granted call from j on, and before k, barred n from user u's list
  abbrev pub Unbarred : ℕ → ℕ → ℕ → ℕ → Type 0
  Unbarred u n j k = (i : ℕ) → j ≤ i → i < k → Granted i → (s : ℕ) → call_at calls i ≢ Bar s u n

  -- before call k user u's list holds the very program p: it has stood since the entry for it was made, by the roll or by a granted allow, and
  -- the entry was not barred since
  pub data OnList (k u : ℕ) (p : Party) : Type 0 where
    by_roll : Stands k p → p.since ≡ 0 → has (user roll u).allowed.0 p.number ≡ true → Unbarred u p.number 0 k → OnList k u p
    by_allow : (j s : ℕ) → Stands k p → j < k → Granted j → call_at calls j ≡ Allow s u p.number → p.since ≤ j → Unbarred u p.number (suc j) k → OnList k u p
