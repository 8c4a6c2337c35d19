use Rattle.law_steps.proofs.ReplayLemmas.{own_lists_show}
use Rattle.law_steps.proofs.replays.own_lists_show.Goals as goal

pub returns : goal.returns
returns c = own_lists_show
