use Rattle.class_search.proofs.FoundLemmas.{closed_is_complete}
use Rattle.class_search.proofs.laws.closed_is_complete.Goals as goal

pub returns : goal.returns
returns c = closed_is_complete
