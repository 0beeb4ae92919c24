-- That the words of the promises say no less than they should. Each of them stands in a promise where a narrower meaning would promise less, so here
-- is what it is from the other side. Assumes nothing.
use Rattle.std.specs.Prelude.{◌≡◌, ℕ, suc, ◌<◌, ◌≤◌, true, List, [], ◌∷◌, length}
use Rattle.labels.specs.Meaning.{Meaning}
use Rattle.tables.specs.Sets.{has}
use Rattle.tables.specs.declared.types.Tables.{Tables}
use Rattle.tables.specs.State.{user, object}
use Rattle.calls.specs.declared.types.Call.{Call}
use Rattle.calls.specs.declared.types.Call.TheVariants.{Enter, Launch, Leave, Read, Write, Create, Delete, Move, Raise, Mix, Unmix, Rights, Allow, Bar}
use Rattle.calls.specs.Calls.{asks, FineAt}
use Rattle.histories.specs.Carries.{Sort, an_object, present, label_of, Goal, standing, made, Flow, flows, carries}
use Rattle.histories.specs.Runs.{Run, Party, Stands, Carries, Chain, OnList, call_at, answer_at}

-- the label of a flow's goal
abbrev pub goal_label : Tables → Goal → ℕ
goal_label t (standing s n) = label_of t s n
goal_label t (made s n l) = l

-- along each of these flows, the label of the party flows to that of the goal
abbrev pub AllFlow : Meaning → Tables → List Flow → Type 0
AllFlow m t [] = Unit {0}
AllFlow m t (flows s n g ∷ rest) = (m.flow (label_of t s n) (goal_label t g) ≡ true) × AllFlow m t rest

-- the one flow that is asked and carries nothing: a raise's, to the new label
abbrev pub Uncarried : Meaning → Tables → Call → Type 0
Uncarried m t (Raise s o l) = m.flow (object t o).label l ≡ true
Uncarried m t (Enter u n l) = Unit {0}
Uncarried m t (Launch s o n l) = Unit {0}
Uncarried m t (Leave s) = Unit {0}
Uncarried m t (Read s o) = Unit {0}
Uncarried m t (Write s o) = Unit {0}
Uncarried m t (Create s p n k l) = Unit {0}
Uncarried m t (Delete s o) = Unit {0}
Uncarried m t (Move s o q) = Unit {0}
Uncarried m t (Mix s o) = Unit {0}
Uncarried m t (Unmix s o) = Unit {0}
Uncarried m t (Rights s o u mask) = Unit {0}
Uncarried m t (Allow s u o) = Unit {0}
Uncarried m t (Bar s u o) = Unit {0}

-- What a call asks under 7, wrong way, is that labels flow along all that it carries if it is granted, and along the one flow that carries nothing. So
-- no flow that is asked is left out of what it carries, and none between parties that stand is in it that is not asked, whatever the labels and
-- the tables are. That a flow to a party that the call makes leads to that party is `FlowsCarried`, below.
abbrev pub CarriesWhatItAsks : Type 0
CarriesWhatItAsks = (m : Meaning) (t : Tables) (c : Call)
    → (FineAt 7 (asks m t c) → AllFlow m t (carries t c) × Uncarried m t c) × (AllFlow m t (carries t c) → Uncarried m t c → FineAt 7 (asks m t c))

module _ {m : Meaning} {roll : Tables} {calls : List Call} {answers : List ℕ} (r : Run m roll calls answers) where
  -- at every moment a number is in the tables exactly if a party with that number stands, and then one alone; from one moment to the next, a party
  -- whose number is still in the tables is the same party
  pub record PartiesStand : Type 0 where
    pub there : (k : ℕ) → k ≤ length calls → (s : Sort) (n : ℕ) → present (r.tables k) s n ≡ true → (since : ℕ) × Stands r k (record { sort = s; number = n; since = since })
    pub only : (k : ℕ) → k ≤ length calls → (p : Party) → Stands r k p → present (r.tables k) p.sort p.number ≡ true
    pub alone : (k : ℕ) → k ≤ length calls → (p q : Party) → Stands r k p → Stands r k q → p.sort ≡ q.sort → p.number ≡ q.number → p.since ≡ q.since
    pub stays : (k : ℕ) → k < length calls → (p : Party) → Stands r k p → present (r.tables (suc k)) p.sort p.number ≡ true → Stands r (suc k) p

  -- at every moment a number is on a user's list exactly if a program of that number stands and is the very one that the list holds
  pub record ListsHold : Type 0 where
    pub there : (k : ℕ) → k ≤ length calls → (u n : ℕ) → has (user (r.tables k) u).allowed.0 n ≡ true
        → (p : Party) × (p.sort ≡ an_object) × (p.number ≡ n) × Stands r k p × OnList r k u p
    pub only : (k : ℕ) → k ≤ length calls → (u : ℕ) (p : Party) → p.sort ≡ an_object → OnList r k u p → Stands r k p × (has (user (r.tables k) u).allowed.0 p.number ≡ true)

  -- call k carries from the party s n that stands to the goal: to the party that stands there, or to the one that the call makes, which then stands
  abbrev pub CarriedTo : ℕ → Sort → ℕ → Goal → Type 0
  CarriedTo k s n (standing s' n') = (p q : Party) × (p.sort ≡ s) × (p.number ≡ n) × (q.sort ≡ s') × (q.number ≡ n') × Stands r k q × Carries r k p q
  CarriedTo k s n (made s' n' l) = (p q : Party) × (p.sort ≡ s) × (p.number ≡ n) × (q.sort ≡ s') × (q.number ≡ n') × Stands r (suc k) q × Carries r k p q

  abbrev pub AllCarried : ℕ → List Flow → Type 0
  AllCarried k [] = Unit {0}
  AllCarried k (flows s n g ∷ rest) = CarriedTo k s n g × AllCarried k rest

  -- every flow of a call that answers 0 is carried
  abbrev pub FlowsCarried : Type 0
  FlowsCarried = (k : ℕ) → k < length calls → answer_at answers k ≡ 0 → AllCarried k (carries (r.tables k) (call_at calls k))

  -- what one call carries is a chain
  abbrev pub OneIsAChain : Type 0
  OneIsAChain = (k : ℕ) (p q : Party) → Carries r k p q → Chain r p k q k

  -- chains join: what leads to a party, and later on from it, leads all the way
  abbrev pub ChainsJoin : Type 0
  ChainsJoin = (p q w : Party) (i j a b : ℕ) → Chain r p i q j → Chain r q a w b → j < a → Chain r p i w b

  -- all of it
  pub record Faithful : Type 0 where
    pub parties : PartiesStand
    pub lists : ListsHold
    pub carried : FlowsCarried
    pub single : OneIsAChain
    pub joined : ChainsJoin

-- the same of every list of calls, from these tables on
abbrev pub AllFaithful : Meaning → Tables → Type 0
AllFaithful m roll = (calls : List Call) (answers : List ℕ) (r : Run m roll calls answers) → Faithful r
