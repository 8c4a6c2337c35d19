-- Where a delivery goes, if it may be entered.
use Rattle.std.specs.Prelude.{◌≡◌, ℕ, false, Option, Some, None, is_some}
use Rattle.asp_model.specs.Configuration.{Activity, requests_of}
use Rattle.asp_model.specs.History.{Edge, Need}
use Rattle.asp_model.specs.Names.{Name, FutureShape}
use Rattle.def_journals.specs.Journals.{RunShape, delivered, is_in}
use Rattle.law_journals.specs.Entered.{IsIn}
use Rattle.step_activity.specs.Actors.{Stands}
use Rattle.core_state.specs.Deliveries.{IsNeeded, IsPassed}
use Rattle.core_state.specs.declared.target.Seated.{Seated}
use Rattle.core_state.specs.declared.target.Spot.{Spot}

-- the activity of that name, or it is not in
abbrev pub IsSeatedAs : RunShape → Name → Option Seated → Type 0
IsSeatedAs s n None = is_in s n ≡ false
IsSeatedAs s n (Some x) = (a : Activity) × IsIn s x.number n a × Stands x.actor.now a (requests_of s.configuration n)

-- the number of the receiver, or the edge may not be entered
abbrev pub IsEdgeTarget : RunShape → FutureShape → (from to : Name) → Option ℕ → Type 0
IsEdgeTarget s f from to None = is_some (delivered (Edge f from to) s) ≡ false
IsEdgeTarget s f from to (Some k) = (x : IsPassed s k f from) × (x.name ≡ to)

abbrev pub IsNeedTarget : RunShape → FutureShape → Name → ℕ → Option Spot → Type 0
IsNeedTarget s f to place None = is_some (delivered (Need f to place) s) ≡ false
IsNeedTarget s f to place (Some x) = (x.loc ≡ place) × (y : IsNeeded s x.number place f) × (y.name ≡ to)
