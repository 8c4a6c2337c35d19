use Rattle.law_journals.proofs.UpdateLemmas.{deliveries_update}
use Rattle.law_journals.proofs.edges.deliveries_update.Goals as goal

pub returns : goal.returns
returns c = deliveries_update
