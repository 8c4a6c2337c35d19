use Rattle.asp_check.proofs.PlaceLemmas.{readable_has_no_places}
use Rattle.asp_check.proofs.no_places.readable_has_no_places.Goals as goal

pub returns : goal.returns
returns c = readable_has_no_places
