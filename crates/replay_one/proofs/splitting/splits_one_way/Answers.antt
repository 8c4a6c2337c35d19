use Rattle.code_laws.proofs.SplitLemmas.{splits_one_way}
use Rattle.replay_one.proofs.splitting.splits_one_way.Goals as goal

pub returns : goal.returns
returns c = splits_one_way
