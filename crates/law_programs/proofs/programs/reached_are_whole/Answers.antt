use Rattle.law_programs.proofs.WholeLaws.{reached_are_whole}
use Rattle.law_programs.proofs.programs.reached_are_whole.Goals as goal

pub returns : goal.returns
returns c = reached_are_whole
