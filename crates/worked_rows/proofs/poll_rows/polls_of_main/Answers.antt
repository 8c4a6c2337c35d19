use Rattle.std.proofs.Common.{refl}
use Rattle.std.specs.Fmt.{digits}
use Rattle.asp_model.specs.Report.{report_lines}
use Rattle.worked_rows.proofs.poll_rows.polls_of_main.Goals as goal

pub returns : goal.returns
unfolding report_lines digits
returns c = record { report = record { plain = record { exits = refl; report = refl }; under_lists = record { fits = record { used_up = refl; reached = refl }; shows = record { exits = refl; report = refl }; reads = refl } } }
