use Rattle.law_outcomes.proofs.ReportLaws.{replay_reports_are_read}
use Rattle.law_outcomes.proofs.outcomes.replay_reports_are_read.Goals as goal

pub returns : goal.returns
returns c = replay_reports_are_read
