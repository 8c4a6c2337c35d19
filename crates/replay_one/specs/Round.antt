-- What a round of the machine leads to.
use Rattle.std.specs.Prelude.{◌≡◌, ◌<◌, ◌≤◌, ◌+◌, ℕ, Bool, true, false, List, Option, Some, None, []}
use Rattle.asp_model.specs.Names.{Name, FutureShape, Text}
use Rattle.asp_model.specs.Term.{Tree, locations}
use Rattle.asp_model.specs.Configuration as model
use Rattle.asp_model.specs.Configuration.{Configuration, ReceptionShape, RequestShape}
use Rattle.asp_model.specs.Intent.{Effect, Acts, Awaits, Serving}
use Rattle.asp_model.specs.Step.{ListsShape, intent_in, step, with_effect}
use Rattle.asp_model.specs.Status.{status_of}
use Rattle.asp_model.specs.Replay.{least_step, steps_from}
use Rattle.asp_model.specs.Shapes.{future_shape}
use Rattle.def_journals.specs.Journals.{number_of}
use Rattle.law_steps.specs.Reached.{IsReached, IsAt}
use Rattle.law_schedules.specs.Schedules.{IsFilledBy, IsLoggedTo, IsNextIn, IsScheduled, RestsIn, WaitsFor}
use Rattle.law_schedules.specs.Watches.{IsWatched}
use Rattle.replay_parts.specs.declared.bounds.Bounds.{Bounds}
use Rattle.step_activity.specs.declared.act.Given.{Given}
use Rattle.replay_population.specs.declared.population.Population.{Population}
use Rattle.replay_population.specs.Giving.{IsGiving}
use Rattle.replay_one.specs.declared.looks.Look.{Look}
use Rattle.replay_one.specs.declared.looks.Look.TheVariants as look
use Rattle.replay_one.specs.declared.round.Round.{Round}
use Rattle.replay_one.specs.declared.round.Round.TheVariants as round
use Rattle.replay_one.specs.declared.round.Gone.{Gone}
use Rattle.replay_one.specs.declared.round.Machine.{Machine}
use Rattle.replay_parts.specs.Bounds.{IsNumbered, count_within, lists_within}
use Rattle.replay_population.specs.Population.{ArePassed, HasPassedIn, IsPopulation, passed_in}
use Rattle.replay_parts.specs.Ready.{Ascend, size}
use Rattle.replay_one.specs.Schedule.{IsTaken, Seen, asks_in, noted_in, ready_in, seen, sends_in, watches_in}

-- an activity is below its count, and this is its step
pub record CanStep (lists : Option ListsShape) (count : Name → ℕ) (c : Configuration) (n : Name) : Type 0 where
  pub activity : model.Activity
  pub there : IsAt c n activity
  pub below : activity.reductions < count n
  pub effect : Effect
  pub intends : intent_in c n ≡ Acts effect
  pub steps : step lists c n ≡ Some (with_effect n effect c)

-- it intends to log at this activity: it sends there, or polls there at home
abbrev pub LogsTo : Configuration → Name → Name → Type 0
LogsTo c n to = (e : Effect) × (intent_in c n ≡ Acts e) × (x : ReceptionShape) × (e.logged ≡ Some (to, x))

-- it rests for good: at its count, or neither at a future that is not filled, nor at a `serve`, nor
-- at a send or a poll
pub record Leaves (lists : Option ListsShape) (count : Name → ℕ) (c : Configuration) (n : Name) : Type 0 where
  pub rests : RestsIn lists count c n
  pub waits : (f : FutureShape) (a : model.Activity) → IsAt c n a → a.reductions < count n → WaitsFor c n f → ⊥
  pub serves : (a : model.Activity) → IsAt c n a → a.reductions < count n → status_of c n ≡ Serving → ⊥
  pub sends : (a : model.Activity) (to : Name) → IsAt c n a → a.reductions < count n → LogsTo c n to → ⊥

-- at the log of the one with this number
abbrev pub LogsAt : Configuration → List Name → Name → ℕ → Type 0
LogsAt c ns n k = (to : Name) × (number_of to ns ≡ Some k) × LogsTo c n to

-- the number of whom a request is sent to, if one is sent
abbrev pub IsTargetOf : List Name → Option (Name × RequestShape) → Option ℕ → Type 0
IsTargetOf ns None None = Unit {0}
IsTargetOf ns (Some x) (Some k) = number_of x.0 ns ≡ Some k
IsTargetOf ns s o = ⊥

abbrev pub IsLook : Option ListsShape → (Name → ℕ) → Configuration → List Name → Name → Look → Type 0
IsLook lists count c ns n look.Leaves = Leaves lists count c n
IsLook lists count c ns n (look.Awaits f) = RestsIn lists count c n × (status_of c n ≡ Awaits (future_shape f.now))
IsLook lists count c ns n look.Serves = RestsIn lists count c n × (status_of c n ≡ Serving)
IsLook lists count c ns n (look.Holds k) = RestsIn lists count c n × LogsAt c ns n k
IsLook lists count c ns n (look.Steps o) = (x : CanStep lists count c n) × IsTargetOf ns x.effect.sent o

-- in its turn it steps, and sends to this one, and else it is held at the log of the one with this number
abbrev pub IsTurn : Bool → ℕ → Option ℕ → Look → Type 0
IsTurn true to o (look.Steps t) = t ≡ o
IsTurn false to o (look.Holds k) = k ≡ to
IsTurn b to o l = ⊥

-- the one with this number has taken its step, and a request of it goes to the one with the other number
abbrev pub IsGivingTo : Population → ℕ → Option ℕ → Given → Type 0
IsGivingTo p number o g = (n : Name) × (number_of n p.roster ≡ Some number) × (c : Configuration) × (e : Effect)
    × IsGiving p n g c e × IsTargetOf p.roster e.sent o

-- whom the effect is for, apart from its stepper, is ready, and who is not ready waits for what it did
pub record IsHandedOn (lists : Option ListsShape) (c : Configuration) (n : Name) (e : Effect) (old new : Seen) : Type 0 where
  pub made : (m : Name) (b : model.Activity) → e.made ≡ Some (m, b) → ready_in new m ≡ true
  pub target : (m : Name) (r : RequestShape) → e.sent ≡ Some (m, r) → asks_in old m r.label ≡ true → ready_in new m ≡ true
  pub next : (m q : Name) → IsLoggedTo e m → IsNextIn lists (with_effect n e c) m q → sends_in old q m ≡ true → ready_in new q ≡ true
  pub filled : (f : FutureShape) (q : Name) → IsFilledBy e f → noted_in old f q ≡ true → ready_in new q ≡ true
  pub ready : (m : Name) → ready_in old m ≡ true → ready_in new m ≡ true
  pub noted : (f : FutureShape) (m : Name) → (IsFilledBy e f → ⊥) → noted_in old f m ≡ true → noted_in new f m ≡ true
  pub asks : (m : Name) (l : Text) → ready_in new m ≡ false → asks_in old m l ≡ true → asks_in new m l ≡ true
  pub sends : (m k : Name) → ready_in new m ≡ false → sends_in old m k ≡ true → sends_in new m k ≡ true

abbrev pub seen_in : Machine → Seen
seen_in m = seen m.population.roster m.schedule

-- the population stands for a configuration that the program reaches, and who is not ready rests, noted
-- by what it waits for
pub record IsRunWith (b : Bounds) (p : Population) (s : Seen) (program : Tree) (c : Configuration) : Type 0 where
  pub bare : locations program ≡ []
  pub reached : IsReached program c
  pub population : IsPopulation p c
  pub numbered : IsNumbered b p.roster
  pub scheduled : IsScheduled (lists_within b) (count_within b) c (ready_in s) (noted_in s)
  pub watched : IsWatched (watches_in s) (count_within b) c (ready_in s)
  pub passed : ArePassed p c

abbrev pub IsRunAt : Bounds → Machine → Tree → Configuration → Type 0
IsRunAt b m program c = IsRunWith b m.population (seen_in m) program c

abbrev pub IsRunSomewhere : Bounds → Machine → Type 0
IsRunSomewhere b m = (program : Tree) × (c : Configuration) × IsRunAt b m program c

-- the machine runs, but for the least of those ready, who was taken out of them
pub record IsRunLess (b : Bounds) (m : Machine) (n : Name) (program : Tree) (c : Configuration) : Type 0 where
  pub before : Seen
  pub run : IsRunWith b m.population before program c
  pub taken : IsTaken before n (seen_in m)

-- this number is that one's
abbrev pub IsRunLessSomewhere : Bounds → Machine → ℕ → Type 0
IsRunLessSomewhere b m k = (n : Name) × (number_of n m.population.roster ≡ Some k)
    × (program : Tree) × (c : Configuration) × IsRunLess b m n program c

-- it runs so, and of the members that the one passed nothing is noted
pub record IsRunBut (b : Bounds) (m : Machine) (n : Name) (program : Tree) (c : Configuration) : Type 0 where
  pub before : Seen
  pub run : IsRunWith b m.population before program c
  pub taken : IsTaken before n (seen_in m)
  pub forgotten : passed_in m.population n ≡ None

-- this number is that one's
abbrev pub IsRunButSomewhere : Bounds → Machine → ℕ → Type 0
IsRunButSomewhere b m k = (n : Name) × (number_of n m.population.roster ≡ Some k)
    × (program : Tree) × (c : Configuration) × IsRunBut b m n program c

-- the least-named step
abbrev pub next_by : Bounds → Configuration → Option Configuration
next_by b c = least_step (lists_within b) (count_within b) c c.activities

-- so many steps of the run lead to the other configuration
abbrev pub LeadsTo : Bounds → ℕ → Configuration → Configuration → Type 0
LeadsTo b k c d = (n : ℕ)
    → steps_from (k + n) (lists_within b) (count_within b) c ≡ steps_from n (lists_within b) (count_within b) d

-- so many reductions were taken that need no other, and so many members of a group are passed
pub record IsGone (b : Bounds) (program : Tree) (c : Configuration) (n : Name) (number most : ℕ) (g : Gone) (new : Machine)
    : Type 0 where
  pub then : Configuration
  pub leads : LeadsTo b g.taken c then
  pub within : g.taken ≤ most
  pub has : number_of n new.population.roster ≡ Some number
  pub but : IsRunBut b new n program then
  pub passed : HasPassedIn then n g.passed

-- some steps were taken, at most so many
pub record IsAhead (b : Bounds) (program : Tree) (c : Configuration) (most k : ℕ) (new : Machine) : Type 0 where
  pub some : 0 < k
  pub within : k ≤ most
  pub then : Configuration
  pub leads : LeadsTo b k c then
  pub run : IsRunAt b new program then

-- one step is taken, or the one rests and leaves
abbrev pub IsTried : Bounds → Tree → Configuration → Bool → Machine → Type 0
IsTried b program c true new = (d : Configuration) × (next_by b c ≡ Some d) × IsRunAt b new program d
IsTried b program c false new = IsRunAt b new program c

-- where none is taken, the same are ready
abbrev pub IsKept : Machine → Bool → Machine → Type 0
IsKept old true new = Unit {0}
IsKept old false new = new.schedule.ready ≡ old.schedule.ready

-- steps are taken, one who rests leaves, or nobody steps
abbrev pub IsRound : Bounds → Tree → Configuration → ℕ → Round → Machine → Type 0
IsRound b program c most (round.Steps k) new = IsAhead b program c most k new
IsRound b program c most round.Leaves new = IsRunAt b new program c
IsRound b program c most round.Ends new = (next_by b c ≡ None) × IsPopulation new.population c

-- the names ascend of those who stand by their numbers
abbrev pub IsInOrder : Machine → Type 0
IsInOrder m = Ascend m.schedule.ready.ordered m.population.roster

-- one who leaves is ready no more
abbrev pub IsFewer : Machine → Round → Machine → Type 0
IsFewer old round.Leaves new = size new.schedule.ready < size old.schedule.ready
IsFewer old t new = Unit {0}

-- steps are taken, or nobody steps
abbrev pub IsStepped : Bounds → Tree → Configuration → ℕ → Option ℕ → Machine → Type 0
IsStepped b program c most (Some k) new = IsAhead b program c most k new
IsStepped b program c most None new = (next_by b c ≡ None) × IsPopulation new.population c
