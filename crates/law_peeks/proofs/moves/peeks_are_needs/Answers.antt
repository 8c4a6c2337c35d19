use Rattle.law_peeks.proofs.NeedLemmas.{peeks_are_needs}
use Rattle.law_peeks.proofs.moves.peeks_are_needs.Goals as goal

pub returns : goal.returns
returns c = peeks_are_needs
