use Rattle.asp_top.proofs.EndedLemmas.{comparisons_are_exact}
use Rattle.asp_top.proofs.ended.comparisons_are_exact.Goals as goal

pub returns : goal.returns
returns c = comparisons_are_exact
