-- What no run of a guard can break. Assumes nothing.
use Rattle.std.specs.Prelude.{◌≡◌, ℕ, ◌≤◌, true, false, List, length, ◌≢◌}
use Rattle.labels.specs.Meaning.{Meaning}
use Rattle.tables.specs.declared.types.Kind.TheVariants.{Program}
use Rattle.tables.specs.declared.types.Tables.{Tables}
use Rattle.tables.specs.State.{subject, object}
use Rattle.sound.specs.Nesting.{Nested}
use Rattle.calls.specs.declared.types.Call.{Call}
use Rattle.calls.specs.declared.types.Call.TheVariants.{Launch, Write}
use Rattle.calls.specs.Calls.{actor}
use Rattle.histories.specs.Carries.{an_object}
use Rattle.histories.specs.Kept.{Peopled, Ranged}
use Rattle.histories.specs.Runs.{Run, Party, Granted, Stands, label_at, Chain, OnList, call_at}

module _ {m : Meaning} {roll : Tables} {calls : List Call} {answers : List ℕ} (r : Run m roll calls answers) where
  -- (a) if a chain of granted calls leads from one party to another that still stands, the first party's label, read before the first call,
  -- flows to the second's present label
  abbrev pub FlowsOn : Type 0
  FlowsOn = (p q : Party) (i k : ℕ) → Chain r p i q k → Stands r (length calls) q → m.flow (label_at r i p) (label_at r (length calls) q) ≡ true

  -- (b) before every call and after the last, each unmixed container holds the label of everything under it, at any depth, and each subject acts for
  -- a user that exists, with a label in that user's range
  abbrev pub Keeps : Type 0
  Keeps = (k : ℕ) → k ≤ length calls → Nested m (r.tables k) × Peopled (r.tables k) × Ranged m (r.tables k)

  -- (c) if a subject was ever launched and its user was no administrator, that user's list held that very program at the launch
  abbrev pub LaunchesListed : Type 0
  LaunchesListed = (k s o n l : ℕ) → Granted r k → call_at calls k ≡ Launch s o n l → (actor (r.tables k) s).admin ≡ false
      → (p : Party) × (p.sort ≡ an_object) × (p.number ≡ o) × OnList r k (subject (r.tables k) s).user p

  -- no write into a program was ever granted
  abbrev pub ProgramsUnwritten : Type 0
  ProgramsUnwritten = (k s o : ℕ) → Granted r k → call_at calls k ≡ Write s o → (object (r.tables k) o).kind ≢ Program

  -- all of it
  pub record Secure : Type 0 where
    pub flows : FlowsOn
    pub keeps : Keeps
    pub listed : LaunchesListed
    pub unwritten : ProgramsUnwritten

-- every list of calls, from these tables on, is secure
abbrev pub AllSecure : Meaning → Tables → Type 0
AllSecure m roll = (calls : List Call) (answers : List ℕ) (r : Run m roll calls answers) → Secure r
