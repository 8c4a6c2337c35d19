use Rattle.wait_need.proofs.NeedLemmas as lemmas
use Rattle.wait_need.proofs.operands.needs_are_of_operands.Goals as goal

pub returns : goal.returns
returns c = lemmas.needs_are_of_operands
