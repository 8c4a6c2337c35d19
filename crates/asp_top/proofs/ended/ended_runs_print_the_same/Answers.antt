use Rattle.asp_top.proofs.EndedLemmas.{ended_runs_print_the_same}
use Rattle.asp_top.proofs.ended.ended_runs_print_the_same.Goals as goal

pub returns : goal.returns
returns c = ended_runs_print_the_same
