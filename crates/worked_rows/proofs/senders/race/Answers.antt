use Rattle.std.proofs.Common.{refl, arith}
use Rattle.std.specs.Fmt.{digits}
use Rattle.asp_model.specs.Report.{report_lines}
use Rattle.worked_rows.proofs.Misfits.{no_other_count}
use Rattle.worked_rows.proofs.senders.race.Goals as goal

pub returns : goal.returns
unfolding report_lines digits
returns c = record {
  report = record { plain = record { exits = refl; report = refl }; under_lists = record { fits = record { used_up = refl; reached = refl }; shows = record { exits = refl; report = refl }; reads = refl } };
  turned = record { fits = record { used_up = refl; reached = refl }; shows = record { exits = refl; report = refl }; reads = refl };
  count = record { leaves = refl; misfit = λ f. no_other_count f.reached (λ e. omega arith) };
  list = record { leaves = refl; misfit = λ f. no_other_count f.reached (λ e. omega arith) };
}
