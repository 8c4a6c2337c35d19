use Rattle.law_outcomes.proofs.ReportLaws.{narrow_reports_are_all}
use Rattle.law_outcomes.proofs.outcomes.narrow_reports_are_all.Goals as goal

pub returns : goal.returns
returns c = narrow_reports_are_all
