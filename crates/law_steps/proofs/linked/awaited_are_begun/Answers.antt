use Rattle.law_steps.proofs.LinkedLemmas.{awaited_are_begun}
use Rattle.law_steps.proofs.linked.awaited_are_begun.Goals as goal

pub returns : goal.returns
returns c = awaited_are_begun
