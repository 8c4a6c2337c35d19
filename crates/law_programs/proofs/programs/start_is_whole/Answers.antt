use Rattle.law_programs.proofs.WholeLaws.{start_is_whole}
use Rattle.law_programs.proofs.programs.start_is_whole.Goals as goal

pub returns : goal.returns
returns c = start_is_whole
