-- The activity of a configuration that an actor stands for, the requests that it received, and its log.
use Rattle.std.specs.Prelude.{◌≡◌, ℕ, List, length, map, Some}
use Rattle.std.specs.Prelude.{slice_get}
use Rattle.std.specs.List.{AllByRecursion}
use Rattle.std.specs.Arc.{arc_value}
use Rattle.asp_model.specs.Configuration as model
use Rattle.asp_model.specs.Configuration.{ReceptionShape, RequestShape}
use Rattle.asp_model.specs.Names.{FutureShape}
use Rattle.asp_model.specs.Chase.{Chase}
use Rattle.asp_model.specs.Intent.{redex_ready}
use Rattle.asp_model.specs.Shapes.{reception_shape}
use Rattle.asp_model.specs.Split as terms
use Rattle.asp_model.specs.Split.{Context, Splits, split}
use Rattle.law_steps.specs.Closed.{AreBelow, IsClosedActivity, IsClosedParcel}
use Rattle.code_table.specs.declared.code.Node.{Node}
use Rattle.request_queue.specs.Pending.{QueueView, pending_of, waiting}
use Rattle.activity_step.specs.Activities.{StandsFor}
use Rattle.activity_step.specs.Standings as step
use Rattle.step_reads.specs.declared.strict.Strict.{Strict}
use Rattle.step_reads.specs.Strict.{strict_ready}
use Rattle.step_activity.specs.declared.actor.Actor.{Actor}
use Rattle.step_activity.specs.Clear.{HasClear}

-- the code that it runs
abbrev pub code_of : Actor → List Node
code_of x = step.code_of x.activity

-- what it received and asked, oldest first
abbrev pub log_in : Actor → List ReceptionShape
log_in x = map reception_shape x.log.items

-- a queue of this code has those of these requests that were not served
pub record HoldsQueue (k : List Node) (q : QueueView) (served : List ℕ) (rs : List RequestShape) : Type 0 where
  pub pending : waiting q ≡ pending_of served 0 rs
  pub arrived : q.arrived ≡ length rs
  pub below : AreBelow (length rs) served
  pub coded : AllByRecursion (λ e. arc_value e.1.arguments.code ≡ k) q.pending

-- what it received: the pending requests are those that were not served
pub record IsQueue (x : Actor) (served : List ℕ) (rs : List RequestShape) : Type 0 where
  pub pending : waiting x.queue ≡ pending_of served 0 rs
  pub arrived : x.queue.arrived ≡ length rs
  pub below : AreBelow (length rs) served
  -- the arguments of the pending requests are of its code
  pub coded : AllByRecursion (λ e. arc_value e.1.arguments.code ≡ code_of x) x.queue.pending

-- the actor stands for an activity that received these requests
pub record Stands (x : Actor) (a : model.Activity) (rs : List RequestShape) : Type 0 where
  pub activity : StandsFor x.activity a
  pub sends : x.sends ≡ a.sends
  pub creations : x.creations ≡ a.creations
  pub queue : IsQueue x a.served rs
  -- what it knows of the members that it waits for
  pub clear : HasClear a x.clear

-- it stands for some activity
abbrev pub IsSomebody : Actor → Type 0
IsSomebody x = (a : model.Activity) × (rs : List RequestShape) × Stands x a rs

-- it stands for a closed activity that received closed requests
pub record IsClosedFor (x : Actor) : Type 0 where
  pub activity : model.Activity
  pub received : List RequestShape
  pub stands : Stands x activity received
  pub closed : IsClosedActivity activity
  pub arguments : (k : ℕ) (r : RequestShape)
      → slice_get received k ≡ Some r → IsClosedParcel r.arguments

-- its redex reads these operands
pub record HasOperands (a : model.Activity) (x : Strict) : Type 0 where
  pub contexts : List Context
  pub redex : terms.Redex
  pub splits : split a.term ≡ Splits contexts redex
  pub ready : (chases : FutureShape → Chase)
      → redex_ready chases a.store redex ≡ strict_ready chases a.store x
