use Rattle.law_programs.proofs.WholeLaws.{moves_keep_whole}
use Rattle.law_programs.proofs.programs.moves_keep_whole.Goals as goal

pub returns : goal.returns
returns c = moves_keep_whole
