use Rattle.asp_top.proofs.EndedLemmas.{journals_are_accepted}
use Rattle.asp_top.proofs.ended.journals_are_accepted.Goals as goal

pub returns : goal.returns
returns c = journals_are_accepted
