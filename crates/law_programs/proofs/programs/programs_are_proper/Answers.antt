use Rattle.law_programs.proofs.WholeLaws.{programs_are_proper}
use Rattle.law_programs.proofs.programs.programs_are_proper.Goals as goal

pub returns : goal.returns
returns c = programs_are_proper
