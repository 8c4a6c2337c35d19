use Rattle.law_peeks.proofs.IntentLemmas.{needs_keep_intents}
use Rattle.law_peeks.proofs.needs.needs_keep_intents.Goals as goal

pub returns : goal.returns
returns c = needs_keep_intents
