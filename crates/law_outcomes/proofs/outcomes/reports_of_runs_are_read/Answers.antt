use Rattle.law_outcomes.proofs.ReportLaws.{reports_of_runs_are_read}
use Rattle.law_outcomes.proofs.outcomes.reports_of_runs_are_read.Goals as goal

pub returns : goal.returns
returns c = reports_of_runs_are_read
