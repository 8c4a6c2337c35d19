use Rattle.law_reports.proofs.DepthLemmas.{depths_are_read}
use Rattle.law_reports.proofs.laws.reports_to_depths_are_read.Goals as goal

pub returns : goal.returns
returns c = record { read = depths_are_read }
