use Rattle.code_laws.proofs.SplitLemmas.{splits_are_redexes}
use Rattle.replay_one.proofs.splitting.splits_are_redexes.Goals as goal

pub returns : goal.returns
returns c = splits_are_redexes
