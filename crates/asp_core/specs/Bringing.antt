-- A lease that comes back, and what the edges are told of it.
use Rattle.std.specs.Prelude.{◌≡◌, ◌++◌, ℕ, suc, Bool, false, List, [], Option, Some, None}
use Rattle.asp_model.specs.Configuration.{Activity, Configuration}
use Rattle.asp_model.specs.History.{Committed, HistoryShape, with_entry}
use Rattle.asp_model.specs.Intent.{Acts, Effect}
use Rattle.asp_model.specs.Names.{FutureShape, Name}
use Rattle.asp_model.specs.Step.{intent_in, with_effect}
use Rattle.def_journals.specs.Edges.{after_events}
use Rattle.def_journals.specs.Journals.{RunShape}
use Rattle.def_journals.specs.Passing.{effect_events}
use Rattle.law_steps.specs.Steps.{IsNewTo}
use Rattle.code_table.specs.declared.code.Node.{Node}
use Rattle.step_activity.specs.declared.actor.Actor.{Actor}
use Rattle.step_activity.specs.declared.act.Given.{Given}
use Rattle.step_activity.specs.declared.act.Given.TheVariants as given
use Rattle.step_activity.specs.Effects.{IsGiven}
use Rattle.future_update.specs.Holders.{HoldersView, is_met}
use Rattle.law_core.specs.Commits.{HasRun, made_by, with_activity}
use Rattle.core_state.specs.declared.lease.Lease.{Lease}
use Rattle.core_state.specs.declared.state.CoreState.{CoreState}
use Rattle.core_state.specs.Leases.{IsLease}
use Rattle.core_state.specs.Returning.{IsRunCommitted}
use Rattle.core_state.specs.Arrivals.{act_at}
use Rattle.core_state.specs.Commits.{IsActCommitted, IsActing}
use Rattle.core_edges.specs.declared.edges.Edges.{Edges}
use Rattle.core_edges.specs.Labels.{AreByLabels}
use Rattle.asp_core.specs.Runs.{Stand, as_met, counted}

-- the edges know what an effect gives, and whom it makes
pub record AreTold (by : Name) (e : Effect) (old new : HoldersView) : Type 0 where
  pub holders : new.holders ≡ after_events (effect_events by [] e) old.holders
  pub activities : new.activities ≡ old.activities ++ as_met (made_by e.made)

-- whom it makes was not met before
abbrev pub IsUnmet : Given → List (Name × Bool) → Type 0
IsUnmet (given.Made n x) activities = is_met n activities ≡ false
IsUnmet g activities = Unit {0}

-- strategies stay those of labels by what is given to a configuration, to which it is new
abbrev pub KeepLabels : {P : Type 0} → Given → (old new : Edges P) → Type 0
KeepLabels g old new = (homes : List (FutureShape × Name)) (c : Configuration) (n : Name) (e : Effect) → IsNewTo c e
    → IsGiven n e g → AreByLabels homes c old → AreByLabels homes (with_effect n e c) new

-- somebody's lease of both
abbrev pub StandForLease : CoreState → HoldersView → Lease → Type 0
StandForLease x v l = (h : HistoryShape) × (code : List Node) × (s : RunShape) × Stand h code s x v × IsLease h code l

-- an activity of a core with these edges has come back, and intends an effect
abbrev pub IsSomeActing : CoreState → HoldersView → (k grant reductions : ℕ) → Actor → Type 0
IsSomeActing z v k grant reductions a =
    (h : HistoryShape) × (code : List Node) × (s : RunShape) × (n : Name) × (e : Effect) × (x : CoreState)
    × Stand h code s x v × IsActing h code z s k n grant reductions a e

-- it is in with that effect, and the edges know what that gives
pub record HasActed {P : Type 0} (h : HistoryShape) (code : List Node) (s : RunShape) (k : ℕ) (n : Name) (grant reductions : ℕ) (end : Activity) (e : Effect) (y : CoreState) (old new : Edges P) : Type 0 where
  pub core : IsActCommitted h code s k n grant reductions end e y
  pub told : AreTold n e old.holders new.holders
  pub labels : (homes : List (FutureShape × Name)) → AreByLabels homes s.configuration old
      → AreByLabels homes (with_effect n e (with_activity n end s.configuration)) new

-- by the communication that it does, if any: of contractions alone the edges are told nothing
abbrev pub IsComeBy : {P : Type 0} (h : HistoryShape) (code : List Node) (s : RunShape) (k : ℕ) (n : Name) (grant taken : ℕ) (end : Activity) → Option Effect → CoreState → (old new : Edges P) → Type 0
IsComeBy h code s k n grant taken end None y old new = IsRunCommitted h code s k n grant taken end y × (new ≡ old)
IsComeBy h code s k n grant taken end (Some e) y old new =
    (intent_in (with_activity n end s.configuration) n ≡ Acts e) × HasActed h code s k n grant (suc taken) end e y old new

-- an activity that was out is in, but for the edges, which take it as out
pub record IsCome {P : Type 0} (h : HistoryShape) (code : List Node) (s : RunShape) (k : ℕ) (n : Name) (grant taken : ℕ) (y : CoreState) (old new : Edges P) : Type 0 where
  pub end : Activity
  pub has_run : HasRun s k grant n taken end
  pub come : IsComeBy h code s k n grant taken end (act_at s n grant taken end) y old new

-- an activity that was out is in with the contractions that its lease took, and with the communication at which
-- it stands then, where that may be done and one of the grant is left
pub record IsBroughtBack {P : Type 0} (homes : List (FutureShape × Name)) (h : HistoryShape) (code : List Node) (s : RunShape) (k : ℕ) (n : Name) (grant taken : ℕ) (y : CoreState) (w : Edges P) : Type 0 where
  pub end : Activity
  pub has_run : HasRun s k grant n taken end
  pub after : RunShape
  pub stand : Stand (with_entry h (Committed k (counted taken (act_at s n grant taken end)))) code after y w.holders
  pub labels : AreByLabels homes after.configuration w
