use Rattle.code_laws.proofs.SplitLemmas.{splits_are_redexes}
use Rattle.code_laws.proofs.splitting.splits_are_redexes.Goals as goal

pub returns : goal.returns
returns c = record { law = splits_are_redexes }
