use Rattle.law_outcomes.proofs.ReportLaws.{plain_runs_show_replays}
use Rattle.law_outcomes.proofs.outcomes.plain_runs_show_replays.Goals as goal

pub returns : goal.returns
returns c = plain_runs_show_replays
