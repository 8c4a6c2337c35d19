use Rattle.law_frozen.proofs.ShowLemmas.{same_shows_same}
use Rattle.law_frozen.proofs.same.same_shows_same.Goals as goal

pub returns : goal.returns
returns c = same_shows_same
