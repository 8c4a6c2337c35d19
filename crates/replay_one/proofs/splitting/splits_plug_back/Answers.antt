use Rattle.code_laws.proofs.SplitLemmas.{splits_plug_back}
use Rattle.replay_one.proofs.splitting.splits_plug_back.Goals as goal

pub returns : goal.returns
returns c = splits_plug_back
