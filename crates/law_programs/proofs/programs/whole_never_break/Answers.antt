use Rattle.law_programs.proofs.BreakLaws.{whole_never_break}
use Rattle.law_programs.proofs.programs.whole_never_break.Goals as goal

pub returns : goal.returns
returns c = whole_never_break
