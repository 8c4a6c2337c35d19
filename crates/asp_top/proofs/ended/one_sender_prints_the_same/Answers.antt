use Rattle.asp_top.proofs.EndedLemmas.{one_sender_prints_the_same}
use Rattle.asp_top.proofs.ended.one_sender_prints_the_same.Goals as goal

pub returns : goal.returns
returns c = one_sender_prints_the_same
