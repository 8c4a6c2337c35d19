use Rattle.law_outcomes.proofs.ReportLaws.{end_reports_agree}
use Rattle.law_outcomes.proofs.outcomes.end_reports_agree.Goals as goal

pub returns : goal.returns
returns c = end_reports_agree
