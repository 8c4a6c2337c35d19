use Rattle.law_outcomes.proofs.ReportLaws.{reports_show_replays}
use Rattle.law_outcomes.proofs.outcomes.reports_show_replays.Goals as goal

pub returns : goal.returns
returns c = reports_show_replays
