use Rattle.code_laws.proofs.SplitLemmas.{splits_one_way}
use Rattle.code_laws.proofs.splitting.splits_one_way.Goals as goal

pub returns : goal.returns
returns c = record { law = splits_one_way }
