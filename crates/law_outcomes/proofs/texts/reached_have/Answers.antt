use Rattle.law_outcomes.proofs.HeadLaws.{reached_have}
use Rattle.law_outcomes.proofs.texts.reached_have.Goals as goal

pub returns : goal.returns
returns c = reached_have
