use Rattle.std.proofs.Common.{◌≡◌, List}
use Rattle.asp_model.specs.Configuration.{Activity, RequestShape}
use Rattle.code_table.specs.Shapes.{parcel_shape}
use Rattle.step_activity.specs.Actors.{Stands, code_of, log_in}
use Rattle.step_activity.proofs.FillingLemmas.{IsFilling}
use Rattle.step_activity.proofs.actor.Actor.fill_all.Given as goal

abbrev pub invariant-loop-place : goal.invariant-loop-place
invariant-loop-place l = record {
  way : (a : Activity) (rs : List RequestShape) → Stands l.fn.self a rs → IsFilling a rs l.places l.place-index (parcel_shape l.value) l.self;
  log : log_in l.self ≡ log_in l.fn.self;
  code : code_of l.self ≡ code_of l.fn.self;
}
