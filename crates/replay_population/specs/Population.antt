-- The configuration that a population of activities stands for.
use Rattle.std.specs.Prelude.{◌≡◌, ◌≢◌, ◌⊎◌, ◌<◌, ◌≤◌, ◌-◌, ℕ, List, [], Option, Some, None, length, slice_get}
use Rattle.std.specs.FinMap.{find, put}
use Rattle.std.specs.Global.{Box}
use Rattle.std.specs.Map.{lookup}
use Rattle.std.specs.Option.{option_map}
use Rattle.std.specs.Ordering.{nat_cmp}
use Rattle.std.specs.BTreeMap.{is_at}
use Rattle.asp_model.specs.Names.{Name, FutureShape, name_cmp, future_cmp}
use Rattle.asp_model.specs.Term.{Tree}
use Rattle.asp_model.specs.Parcel.{ParcelShape}
use Rattle.asp_model.specs.Chase.{chase}
use Rattle.asp_model.specs.Configuration as model
use Rattle.asp_model.specs.Configuration.{Configuration, From, Poll, RequestShape, log_of, requests_of}
use Rattle.asp_model.specs.Step.{with_last}
use Rattle.code_table.specs.declared.code.Node.{Node}
use Rattle.code_table.specs.Pieces.{tree}
use Rattle.code_table.specs.Sound.{root_of}
use Rattle.code_table.specs.Tables.{piece_at, pieces}
use Rattle.def_journals.specs.Journals.{number_of}
use Rattle.future_table.specs.Values.{AreOfCode, values_of}
use Rattle.law_steps.specs.Closed.{IsClosed}
use Rattle.law_steps.specs.Reached.{IsAt}
use Rattle.activity_step.specs.Local.{LocalRun}
use Rattle.step_activity.specs.declared.actor.Actor.{Actor}
use Rattle.step_activity.specs.declared.act.Given.{Given}
use Rattle.step_activity.specs.declared.act.Given.TheVariants as given
use Rattle.step_activity.specs.Actors.{code_of, log_in}
use Rattle.step_activity.specs.Found.{IsFoundFor}
use Rattle.step_activity.specs.Effects.{IsGivenOf}
use Rattle.step_activity.specs.Passing.{HasPassed}
use Rattle.step_ends.specs.Activities.{StandsAt, actor_at}
use Rattle.replay_population.specs.declared.population.Population.{Population}
use Rattle.replay_parts.specs.Roster.{IsRoster}

-- the term that the last node of a table stands for
abbrev pub term_of : List Node → Tree
term_of k = tree [] (piece_at (pieces k) (root_of k))

abbrev pub unboxed : Option (Box Actor) → Option Actor
unboxed = option_map (λ b. b.value)

abbrev pub seated : Option (Option (Box Actor)) → Option Actor
seated None = None
seated (Some o) = unboxed o

-- who has a number
abbrev pub seat_at : List (Option (Box Actor)) → ℕ → Option Actor
seat_at xs k = seated (slice_get xs k)

-- what a number has, where the name has one
abbrev pub at_number : {X : Type 0} → Option ℕ → (ℕ → Option X) → Option X
at_number None f = None
at_number (Some k) f = f k

abbrev pub found_in : Population → Name → Option Actor
found_in p n = at_number (number_of n p.roster) (seat_at p.activities.items)

-- a name has this number
abbrev pub IsKnown : Population → ℕ → Type 0
IsKnown p k = (n : Name) × (number_of n p.roster ≡ Some k)

-- the one with this number serves the request of the other, where one is told
abbrev pub IsFoundAt : Population → ℕ → Option ℕ → Type 0
IsFoundAt p k found = (x : Actor) → seat_at p.activities.items k ≡ Some x → IsFoundFor x found

-- there is a seat for the one with this number, and nothing else changes
pub record HasSeat (old : Population) (k : ℕ) (new : Population) : Type 0 where
  pub same : new ≡ record old { activities = new.activities }
  pub seat : k < length new.activities.items
  pub seats : (j : ℕ) → seat_at new.activities.items j ≡ seat_at old.activities.items j

-- who stands under a number changes, and nothing else
pub record IsSet (old : Population) (k : ℕ) (o : Option Actor) (new : Population) : Type 0 where
  pub same : new ≡ record old { activities = new.activities }
  pub here : seat_at new.activities.items k ≡ o
  pub others : (j : ℕ) → j ≢ k → seat_at new.activities.items j ≡ seat_at old.activities.items j

-- all activities run this code
abbrev pub AreActorsOf : List Node → Population → Type 0
AreActorsOf k p = (n : Name) (x : Actor) → found_in p n ≡ Some x → code_of x ≡ k

-- the population stands for the configuration, and its activities and values are of one code
pub record IsPopulation (p : Population) (c : Configuration) : Type 0 where
  pub roster : IsRoster p.roster
  pub activities : (n : Name) → StandsAt (found_in p n) (find name_cmp n c.activities) (requests_of c n)
  pub logs : (n : Name) (x : Actor) → found_in p n ≡ Some x → log_in x ≡ log_of c n
  pub futures : values_of p.futures ≡ c.futures
  pub code : List Node
  pub actors : AreActorsOf code p
  pub values : AreOfCode code p.futures

-- and that is closed
pub record IsClosedPopulation (p : Population) (c : Configuration) : Type 0 where
  pub closed : IsClosed c
  pub population : IsPopulation p c

abbrev pub IsClosedBySome : Population → Type 0
IsClosedBySome p = (c : Configuration) × IsClosedPopulation p c

-- the activities by their names
abbrev pub AreNamed : Population → List (Name × Box Actor) → Type 0
AreNamed p xs = (n : Name) → actor_at xs n ≡ found_in p n

-- Members that are passed

-- how many members of a group one who waits for them has passed, where that is noted
abbrev pub passed_in : Population → Name → Option ℕ
passed_in p n = at_number (number_of n p.roster) (λ k. lookup (is_at (nat_cmp k)) p.passed.entries)

-- who is noted is there, and has passed so many
abbrev pub ArePassed : Population → Configuration → Type 0
ArePassed p c = (n : Name) (k : ℕ) → passed_in p n ≡ Some k → (a : model.Activity) × IsAt c n a × HasPassed (chase c.futures) a k

-- an activity has passed so many
abbrev pub HasPassedIn : Configuration → Name → ℕ → Type 0
HasPassedIn c n k = (a : model.Activity) → IsAt c n a → HasPassed (chase c.futures) a k

-- the one with this number has
abbrev pub HasPassedBySome : Population → ℕ → ℕ → Type 0
HasPassedBySome p number k = (n : Name) × (number_of n p.roster ≡ Some number) × (c : Configuration) × IsPopulation p c × HasPassedIn c n k

-- what is noted was noted before
abbrev pub KeepsPassed : Population → Population → Type 0
KeepsPassed old new = (m : Name) (j : ℕ) → passed_in new m ≡ Some j → passed_in old m ≡ Some j

-- what is noted was noted before, or is this; and nothing else changes
pub record IsPassing (old : Population) (n : Name) (k : ℕ) (new : Population) : Type 0 where
  pub same : new ≡ record old { passed = new.passed }
  pub noted : (m : Name) (j : ℕ) → passed_in new m ≡ Some j → (passed_in old m ≡ Some j) ⊎ ((m ≡ n) × (j ≡ k))

-- nothing is noted of one, and else what was
pub record IsForgotten (old : Population) (n : Name) (new : Population) : Type 0 where
  pub same : new ≡ record old { passed = new.passed }
  pub noted : (m : Name) (j : ℕ) → passed_in new m ≡ Some j → (m ≢ n) × (passed_in old m ≡ Some j)

abbrev pub or_zero : Option ℕ → ℕ
or_zero None = 0
or_zero (Some k) = k

-- Changes of a configuration

abbrev pub with_activity : Name → model.Activity → Configuration → Configuration
with_activity n a c = record c { activities = put name_cmp n a c.activities }

-- the request has come, and its sender is noted
abbrev pub with_request : Name → RequestShape → Configuration → Configuration
with_request n r c = record c {
  received = with_last (Some (n, r)) c.received;
  logs = with_last (Some (n, From r.sender)) c.logs;
}

-- where a poll is given, it is noted at home
abbrev pub with_poll : Name → Given → Configuration → Configuration
with_poll n given.Polled c = record c { logs = with_last (Some (n, Poll)) c.logs }
with_poll n g c = c

abbrev pub with_value : FutureShape → ParcelShape → Configuration → Configuration
with_value f p c = record c { futures = put future_cmp f p c.futures }

-- an activity took so many contractions that need no other, at most so many, and no more than its count allows
pub record IsLocalRun (p : Population) (c : Configuration) (n : Name) (most count k : ℕ) : Type 0 where
  pub activity : model.Activity
  pub there : IsAt c n activity
  pub end : model.Activity
  pub run : LocalRun k activity end
  pub within : k ≤ most
  pub below : k ≤ count - activity.reductions
  pub population : IsPopulation p (with_activity n end c)

-- it took them, or nobody is there
abbrev pub IsRunIn : Population → Configuration → Name → ℕ → ℕ → ℕ → Type 0
IsRunIn p c n most count k = IsLocalRun p c n most count k ⊎ ((k ≡ 0) × IsPopulation p c)

-- the population stands for the configuration, and what is given is of its code
pub record IsGivenIn (p : Population) (c : Configuration) (g : Given) : Type 0 where
  pub population : IsPopulation p c
  pub coded : IsGivenOf population.code g
