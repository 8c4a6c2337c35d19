-- What a commit makes of a core.
use Rattle.std.specs.Prelude.{◌≡◌, ◌≢◌, ◌≤◌, ◌<◌, ◌+◌, ◌-◌, ◌^◌, ℕ, List, [], Some, None, length}
use Rattle.asp_model.specs.Configuration.{Activity, log_of, requests_of}
use Rattle.asp_model.specs.History.{Committed, HistoryShape, with_entry}
use Rattle.asp_model.specs.Names.{Name}
use Rattle.asp_model.specs.Step.{name_at}
use Rattle.def_journals.specs.Journals.{RunShape, first_in, grant_of, run_of}
use Rattle.law_journals.specs.Budgets.{most_in}
use Rattle.law_journals.specs.Leases.{bursts_in}
use Rattle.law_journals.specs.Numbered.{AreNumbered, IsFirst}
use Rattle.law_paths.specs.Whole.{IsWhole}
use Rattle.law_core.specs.Commits.{HasRun, returned, with_activity}
use Rattle.code_table.specs.declared.code.Node.{Node}
use Rattle.future_table.specs.Values.{AreOfCode, values_of}
use Rattle.core_seats.specs.Seats.{AreSeats, Out, names_in, seat_at, seats_in}
use Rattle.core_state.specs.Journal.{entries_in, room}
use Rattle.step_activity.specs.declared.actor.Actor.{Actor}
use Rattle.step_activity.specs.Actors.{Stands, code_of, log_in}
use Rattle.asp_model.specs.Chase.{Values}
use Rattle.core_ranks.specs.Ranks.{RankShape, Goes, HasNeed}
use Rattle.law_core.specs.Ranked.{rank_resting}
use Rattle.step_activity.specs.Stances as stances
use Rattle.step_activity.specs.Stances.{StanceShape}
use Rattle.core_state.specs.declared.lease.Lease.{Lease}
use Rattle.core_state.specs.Leases.{IsLease}
use Rattle.core_state.specs.declared.state.CoreState.{CoreState}
use Rattle.core_state.specs.Cores.{AreRanked, IsCore, IsSeated}

-- all but one are where the run has them
pub record IsPopulatedBut (h : HistoryShape) (code : List Node) (x : CoreState) (s : RunShape) (k : ℕ) : Type 0 where
  pub kept : AreSeats x.seats
  pub names : names_in x.seats ≡ s.names
  pub seats : (j : ℕ) (n : Name) → j ≢ k → name_at s.names j ≡ Some n → IsSeated h code s j n (seat_at x.seats j)
  pub named_out : (j : ℕ) → name_at s.names j ≡ None → grant_of j s.out ≡ None
  pub futures : values_of x.futures ≡ s.configuration.futures
  pub values : AreOfCode code x.futures

-- a lease comes back: its box is empty, and the actor has received all and stands where its contractions led
pub record IsReturning (h : HistoryShape) (code : List Node) (x : CoreState) (s : RunShape) (k : ℕ) (n : Name) (grant taken : ℕ) (a : Actor) : Type 0 where
  pub first : IsFirst (first_in h)
  pub whole : IsWhole s.configuration
  pub numbered : AreNumbered s
  pub small : most_in h < 2 ^ 64
  pub run : run_of h ≡ Some s
  pub entries : entries_in x.journal ≡ h.entries
  pub populated : IsPopulatedBut h code x s k
  pub away : seat_at x.seats k ≡ Some (Out [])
  pub ranks : AreRanked x s
  pub left : x.left ≡ s.left
  pub bursts : x.bursts ≡ bursts_in h.entries
  pub room : length (seats_in x.seats) + 3 ≤ room x.journal
  pub end : Activity
  pub has_run : HasRun s k grant n taken end
  pub within : taken ≤ grant
  pub stands : Stands a end (requests_of s.configuration n)
  pub coded : code_of a ≡ code
  -- its log notes what came meanwhile, before whatever it asks now
  pub logged : log_in a ≡ log_of s.configuration n

abbrev pub IsSomeReturning : CoreState → ℕ → ℕ → ℕ → Actor → Type 0
IsSomeReturning x k grant taken a = (h : HistoryShape) × (code : List Node) × (s : RunShape) × (n : Name) × IsReturning h code x s k n grant taken a

-- somebody has a lease of this core
abbrev pub IsSomeLease : CoreState → Lease → Type 0
IsSomeLease x l = (h : HistoryShape) × (code : List Node) × (s : RunShape) × IsCore h code x s × IsLease h code l

-- the rank of an activity that stands so
abbrev pub rank_stance : Values → StanceShape → RankShape
rank_stance values (stances.Needs f place) = HasNeed
rank_stance values (stances.Goes communicates) = Goes
rank_stance values (stances.Rests status) = rank_resting values status

-- its contractions alone were committed
abbrev pub IsRunCommitted : (h : HistoryShape) (code : List Node) (s : RunShape) (k : ℕ) (n : Name) (grant taken : ℕ) (end : Activity) → CoreState → Type 0
IsRunCommitted h code s k n grant taken end new = IsCore (with_entry h (Committed k taken)) code new (returned s k (grant - taken) (with_activity n end s.configuration) [])
