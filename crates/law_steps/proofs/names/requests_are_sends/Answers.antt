use Rattle.law_steps.proofs.NamesLaws.{requests_are_sends}
use Rattle.law_steps.proofs.names.requests_are_sends.Goals as goal

pub returns : goal.returns
returns c = requests_are_sends
