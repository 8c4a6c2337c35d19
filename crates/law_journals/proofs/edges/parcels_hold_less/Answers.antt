use Rattle.law_journals.proofs.UpdateLemmas.{parcels_hold_less}
use Rattle.law_journals.proofs.edges.parcels_hold_less.Goals as goal

pub returns : goal.returns
returns c = parcels_hold_less
