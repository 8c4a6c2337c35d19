use Rattle.replay_services.proofs.ReportLemmas.{same_runs_show_alike}
use Rattle.replay_services.proofs.laws.same_runs_show_alike.Goals as goal

pub returns : goal.returns
returns c = same_runs_show_alike
