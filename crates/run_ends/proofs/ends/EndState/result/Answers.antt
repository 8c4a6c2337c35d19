use Rattle.std.proofs.Common.{sym, ap, ◌∙◌}
use Rattle.std.specs.Prelude.{reverse}
use Rattle.asp_model.specs.Intent.{StatusShape}
use Rattle.asp_model.specs.Shapes.{status_shape}
use Rattle.def_paths.specs.Snapshots.{result_in}
use Rattle.run_ends.proofs.ends.EndState.result.Goals as goal

pub returns-in-Done : goal.returns-in-Done
returns-in-Done c = record {
  result = λ k s h. c.place_in.ensures.place k s.term (reverse s.services) h.term ∙ ap (λ (x : StatusShape). result_in x s.term) (sym (ap status_shape c.in-Done.is));
}
