use Rattle.law_steps.proofs.NamesLaws.{futures_were_begun}
use Rattle.law_steps.proofs.names.futures_were_begun.Goals as goal

pub returns : goal.returns
returns c = futures_were_begun
