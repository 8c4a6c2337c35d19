use Rattle.code_laws.proofs.SplitLemmas.{splits_plug_back}
use Rattle.code_laws.proofs.splitting.splits_plug_back.Goals as goal

pub returns : goal.returns
returns c = record { law = splits_plug_back }
