-- How a core begins.
use Rattle.std.specs.Prelude.{◌≡◌, ℕ, List, [], ◌∷◌}
use Rattle.asp_model.specs.Configuration.{begun as activity_begun}
use Rattle.asp_model.specs.Store.{Object}
use Rattle.asp_model.specs.Term.{locations}
use Rattle.code_table.specs.declared.code.Node.{Node}
use Rattle.future_table.specs.Values.{values_of}
use Rattle.core_ranks.specs.Ranks.{IsRanked, Rests}
use Rattle.core_seats.specs.Seats.{AreSeats, names_in, seats_in}
use Rattle.core_state.specs.Journal.{entries_in}
use Rattle.step_activity.specs.declared.actor.Actor.{Actor}
use Rattle.step_activity.specs.Actors.{Stands, code_of, log_in}
use Rattle.core_state.specs.declared.state.CoreState.{CoreState}
use Rattle.core_state.specs.Cores.{program_of}

-- nobody is there yet, and this budget is left
pub record IsEmpty (x : CoreState) (budget : ℕ) : Type 0 where
  pub kept : AreSeats x.seats
  pub names : names_in x.seats ≡ []
  pub seats : seats_in x.seats ≡ []
  pub rests : (k : ℕ) → IsRanked x.ranks k Rests
  pub futures : values_of x.futures ≡ []
  pub entries : entries_in x.journal ≡ []
  pub left : x.left ≡ budget
  pub bursts : x.bursts ≡ 0

-- the main activity of the program of a code, which holds nothing and has an empty log
pub record IsMain (code : List Node) (a : Actor) : Type 0 where
  pub bare : locations (program_of code) ≡ []
  pub stands : Stands a (activity_begun (program_of code) (Object [] [] ∷ [])) []
  pub coded : code_of a ≡ code
  pub logged : log_in a ≡ []

abbrev pub IsSomeMain : Actor → Type 0
IsSomeMain a = (code : List Node) × IsMain code a
