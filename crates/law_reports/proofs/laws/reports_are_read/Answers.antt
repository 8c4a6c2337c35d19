use Rattle.law_reports.proofs.ReadingLemmas.{report_is_read}
use Rattle.law_reports.proofs.laws.reports_are_read.Goals as goal

pub returns : goal.returns
returns c = record { read = report_is_read }
