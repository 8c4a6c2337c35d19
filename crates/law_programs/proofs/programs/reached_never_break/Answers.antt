use Rattle.law_programs.proofs.BreakLaws.{reached_never_break}
use Rattle.law_programs.proofs.programs.reached_never_break.Goals as goal

pub returns : goal.returns
returns c = reached_never_break
