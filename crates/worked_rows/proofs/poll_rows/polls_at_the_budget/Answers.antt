use Rattle.std.proofs.Common.{refl}
use Rattle.std.specs.Fmt.{digits}
use Rattle.asp_model.specs.Report.{report_lines}
use Rattle.worked_rows.proofs.poll_rows.polls_at_the_budget.Goals as goal

pub returns : goal.returns
unfolding report_lines digits
returns c = record {
  before = record { plain = record { exits = refl; report = refl }; under_lists = record { fits = record { used_up = refl; reached = refl }; shows = record { exits = refl; report = refl }; reads = refl } };
  last = record { plain = record { exits = refl; report = refl }; under_lists = record { fits = record { used_up = refl; reached = refl }; shows = record { exits = refl; report = refl }; reads = refl } };
}
