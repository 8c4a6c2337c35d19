-- Where an activity stands, and what a communication makes of it.
use Rattle.std.specs.Prelude.{◌≡◌, suc, Bool, List, [], ◌∷◌, ◌++◌, Some}
use Rattle.std.specs.Arc.{arc_value}
use Rattle.asp_model.specs.Names.{FutureShape, Text}
use Rattle.asp_model.specs.Store.{Number}
use Rattle.asp_model.specs.Contraction.{truth}
use Rattle.asp_model.specs.Term.{Call, Make, leaf, loc, locs_then, more, node, none}
use Rattle.asp_model.specs.Split as split
use Rattle.asp_model.specs.Split.{Context, Splits, plug}
use Rattle.asp_model.specs.Parcel.{ParcelShape, unpack, unpacked_roots}
use Rattle.asp_model.specs.Configuration as model
use Rattle.asp_model.specs.Configuration.{ServiceShape}
use Rattle.asp_model.specs.Intent.{but_newest}
use Rattle.code_table.specs.declared.code.Node.{Node}
use Rattle.step_rows.specs.declared.redex.Redex.{Redex}
use Rattle.step_rows.specs.Redexes.{IsRedex}
use Rattle.activity_step.specs.declared.activity.Activity.{Activity}
use Rattle.activity_step.specs.Activities.{with_new_cell}
use Rattle.activity_step.specs.declared.standing.Standing.{Standing}
use Rattle.activity_step.specs.declared.standing.Standing.TheVariants as standing

-- the code that it runs
abbrev pub code_of : Activity → List Node
code_of x = arc_value x.code

-- it stands at a redex that is told so
pub record IsAt (a : model.Activity) (x : Redex) : Type 0 where
  pub contexts : List Context
  pub redex : split.Redex
  pub splits : split.split a.term ≡ Splits contexts redex
  pub is : IsRedex redex x

abbrev pub IsStandingAt : model.Activity → Standing → Type 0
IsStandingAt a (standing.Place p) = split.split a.term ≡ split.Stands p
IsStandingAt a (standing.Redex x) = IsAt a x

-- its term in these contexts waits for a service, and the call of the service is its term
abbrev pub serving : List Context → Text → FutureShape → ParcelShape → model.Activity → model.Activity
serving contexts l f p a = record a {
  term = node (Call l) (more (loc a.active) (locs_then (unpacked_roots a.store p) none));
  services = a.services ++ record { contexts = contexts; future = a.present } ∷ [];
  present = Some f;
  store = unpack a.store p;
  reductions = suc a.reductions;
}

-- the service has ended, and the term that waited for it goes on with an empty object
abbrev pub going_on : ServiceShape → model.Activity → model.Activity
going_on v a = record a {
  term = plug v.contexts (leaf (Make [] []));
  services = but_newest a.services;
  present = v.future;
  reductions = suc a.reductions;
}

-- its term asked what is pending: it becomes 1 where the answer is yes, and else 0
abbrev pub polled : List Context → Bool → model.Activity → model.Activity
polled contexts answer a = with_new_cell contexts (Number (truth answer)) a
