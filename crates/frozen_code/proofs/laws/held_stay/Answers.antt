use Rattle.frozen_code.proofs.HeldLemmas.{contexts_stay, redexes_stay}
use Rattle.frozen_code.proofs.laws.held_stay.Goals as goal

pub returns : goal.returns
returns c = record { contexts = contexts_stay; redexes = redexes_stay }
