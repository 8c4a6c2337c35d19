use Rattle.core_sets.proofs.LanesLemmas.{first_open}
use Rattle.core_sets.proofs.lanes.Lanes.first_open.Goals as goal

pub returns : goal.returns
returns c = record { first = first_open c.args.self.now c.requires.lanes c.first.result c.first.ensures.first }
