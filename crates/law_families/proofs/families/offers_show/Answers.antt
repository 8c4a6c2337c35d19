use Rattle.law_families.proofs.OfferLemmas.{offers_show}
use Rattle.law_families.proofs.families.offers_show.Goals as goal

pub returns : goal.returns
returns c = offers_show
