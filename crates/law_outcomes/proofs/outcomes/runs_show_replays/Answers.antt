use Rattle.law_outcomes.proofs.ReportLaws.{runs_show_replays}
use Rattle.law_outcomes.proofs.outcomes.runs_show_replays.Goals as goal

pub returns : goal.returns
returns c = runs_show_replays
