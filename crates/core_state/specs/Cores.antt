-- What a core keeps: the run of its journal.
use Rattle.std.specs.Prelude.{◌≡◌, ◌≤◌, ◌<◌, ◌^◌, ℕ, suc, List, [], ◌∷◌, ◌++◌, Option, Some, None, map}
use Rattle.std.specs.List.{AllByRecursion}
use Rattle.std.specs.Arc.{arc_value}
use Rattle.asp_model.specs.Configuration as model
use Rattle.asp_model.specs.Configuration.{log_of, requests_of}
use Rattle.asp_model.specs.History.{HistoryShape}
use Rattle.asp_model.specs.Names.{Name}
use Rattle.asp_model.specs.Step.{name_at}
use Rattle.asp_model.specs.Term.{Tree}
use Rattle.def_journals.specs.Journals.{RunShape, first_in, grant_of, run_of}
use Rattle.law_steps.specs.Reached.{IsAt}
use Rattle.law_journals.specs.Budgets.{most_in}
use Rattle.law_journals.specs.Leases.{IsLentAt, bursts_in, receptions_of}
use Rattle.law_journals.specs.Numbered.{AreNumbered, IsFirst}
use Rattle.law_paths.specs.Whole.{IsWhole}
use Rattle.code_table.specs.declared.code.Node.{Node}
use Rattle.code_table.specs.Pieces.{tree}
use Rattle.code_table.specs.Sound.{root_of}
use Rattle.code_table.specs.Tables.{piece_at, pieces}
use Rattle.future_table.specs.Values.{AreOfCode, values_of}
use Rattle.request_queue.specs.declared.request.Request.{Request}
use Rattle.request_queue.specs.Requests.{request_shape}
use Rattle.core_ranks.specs.Ranks.{IsRanked}
use Rattle.core_seats.specs.Seats.{AreSeats, In, Out, SeatShape, names_in, seat_at, seats_in}
use Rattle.core_state.specs.Journal.{entries_in, room}
use Rattle.step_activity.specs.declared.actor.Actor.{Actor}
use Rattle.step_activity.specs.Actors.{Stands, code_of, log_in}
use Rattle.law_core.specs.Runs.{rank_of_number}
use Rattle.core_state.specs.declared.state.CoreState.{CoreState}

-- the program that a table of code stands for
abbrev pub program_of : List Node → Tree
program_of k = tree [] (piece_at (pieces k) (root_of k))

-- an activity that is in: the actor stands for it, and has its log
pub record IsHere (code : List Node) (s : RunShape) (k : ℕ) (n : Name) (x : Actor) : Type 0 where
  pub free : grant_of k s.out ≡ None
  pub activity : model.Activity
  pub there : IsAt s.configuration n activity
  pub stands : Stands x activity (requests_of s.configuration n)
  pub logged : log_in x ≡ log_of s.configuration n
  pub coded : code_of x ≡ code

-- one that is out: it was lent in some run of the journal, and what it received since lies in its box
pub record IsAway (h : HistoryShape) (code : List Node) (s : RunShape) (k : ℕ) (n : Name) (came : List Request) : Type 0 where
  pub burst : ℕ
  pub run : RunShape
  pub lent : IsLentAt h k burst run
  pub named : name_at run.names k ≡ Some n
  pub requests : requests_of s.configuration n ≡ requests_of run.configuration n ++ map request_shape came
  -- who is out asks nothing, so its log notes just that
  pub logged : log_of s.configuration n ≡ log_of run.configuration n ++ receptions_of (map request_shape came)
  pub coded : AllByRecursion (λ r. arc_value r.arguments.code ≡ code) came

abbrev pub IsSeated : HistoryShape → List Node → RunShape → ℕ → Name → Option (SeatShape Actor Request) → Type 0
IsSeated h code s k n (Some (In x)) = IsHere code s k n x
IsSeated h code s k n (Some (Out came)) = IsAway h code s k n came
IsSeated h code s k n None = ⊥

-- how many are in
abbrev pub count_in : {X R : Type 0} → List (SeatShape X R) → ℕ
count_in [] = 0
count_in (In x ∷ seats) = suc (count_in seats)
count_in (Out came ∷ seats) = count_in seats

-- its activities and futures are those of the run, whose names have their numbers, and all runs this code
pub record IsPopulated (h : HistoryShape) (code : List Node) (x : CoreState) (s : RunShape) : Type 0 where
  pub kept : AreSeats x.seats
  pub names : names_in x.seats ≡ s.names
  pub seats : (k : ℕ) (n : Name) → name_at s.names k ≡ Some n → IsSeated h code s k n (seat_at x.seats k)
  -- who is out has a name
  pub named_out : (k : ℕ) → name_at s.names k ≡ None → grant_of k s.out ≡ None
  pub futures : values_of x.futures ≡ s.configuration.futures
  pub values : AreOfCode code x.futures

-- each activity that is in has its rank
abbrev pub AreRanked : CoreState → RunShape → Type 0
AreRanked x s = (k : ℕ) → IsRanked x.ranks k (rank_of_number s k)

-- the state stands for the run of this history
pub record IsCore (h : HistoryShape) (code : List Node) (x : CoreState) (s : RunShape) : Type 0 where
  -- the run begins where all is sound, and stays whole and numbered entry by entry
  pub first : IsFirst (first_in h)
  pub whole : IsWhole s.configuration
  pub numbered : AreNumbered s
  pub small : most_in h < 2 ^ 64
  pub run : run_of h ≡ Some s
  pub entries : entries_in x.journal ≡ h.entries
  pub populated : IsPopulated h code x s
  pub ranks : AreRanked x s
  pub left : x.left ≡ s.left
  pub bursts : x.bursts ≡ bursts_in h.entries
  -- whoever is in can be lent without memory
  pub room : count_in (seats_in x.seats) ≤ room x.journal

abbrev pub IsSomeCore : CoreState → Type 0
IsSomeCore x = (h : HistoryShape) × (code : List Node) × (s : RunShape) × IsCore h code x s
