-- The first difference of reports from logs and counts.
use Rattle.std.proofs.Common.{ℕ, List, Option, map}
use Rattle.std.specs.Global.{Vec}
use Rattle.asp_model.specs.declared.outcome.ActivityReport.{ActivityReport}
use Rattle.asp_model.specs.declared.outcome.Reception.{Reception}
use Rattle.asp_model.specs.Names.{Name}
use Rattle.asp_model.specs.Shapes.{activity_shape}
use Rattle.law_schedules.specs.Divergence.{first_difference, row_of, rows_given}
use Rattle.replay_parts.specs.Rows.{list_shape}

abbrev pub difference_in : List ActivityReport → List (Name × Vec Reception) → List (Name × ℕ) → Option Name
difference_in reports lists counts = first_difference (map (λ (a : ActivityReport). row_of (activity_shape a)) reports) (rows_given (map list_shape lists) counts)
