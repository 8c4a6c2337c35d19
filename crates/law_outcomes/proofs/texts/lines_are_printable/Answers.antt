use Rattle.law_outcomes.proofs.HeadLaws.{lines_are_printable}
use Rattle.law_outcomes.proofs.texts.lines_are_printable.Goals as goal

pub returns : goal.returns
returns c = lines_are_printable
