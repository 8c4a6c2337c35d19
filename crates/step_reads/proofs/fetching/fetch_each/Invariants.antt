use Rattle.std.proofs.Common.{◌≡◌}
use Rattle.asp_model.specs.Chase.{chase}
use Rattle.asp_model.specs.Configuration as model
use Rattle.activity_step.specs.Activities.{StandsFor}
use Rattle.activity_step.specs.Standings.{code_of}
use Rattle.future_table.specs.Values.{values_of}
use Rattle.step_reads.proofs.FetchLemmas.{IsOnWay}
use Rattle.step_reads.proofs.fetching.fetch_each.Given as goal

abbrev pub invariant-loop-place : goal.invariant-loop-place
invariant-loop-place l = record {
  way : (a : model.Activity) → StandsFor l.fn.activity a → IsOnWay (chase (values_of l.futures)) a l.places l.place-index l.activity;
  code : code_of l.activity ≡ code_of l.fn.activity;
}
