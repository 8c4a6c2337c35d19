use Rattle.law_chases.proofs.ChaseLemmas.{chase_finds}
use Rattle.law_chases.proofs.chases.chases_find.Goals as goal

pub returns : goal.returns
returns c = chase_finds
