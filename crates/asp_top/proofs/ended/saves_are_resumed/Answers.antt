use Rattle.asp_top.proofs.EndedLemmas.{saves_are_resumed}
use Rattle.asp_top.proofs.ended.saves_are_resumed.Goals as goal

pub returns : goal.returns
returns c = saves_are_resumed
