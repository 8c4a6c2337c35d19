use Rattle.replay_parts.proofs.ReadyLemmas.{first_by}
use Rattle.replay_parts.proofs.ready.Ready.is_number_first.Goals as goal

pub returns : goal.returns
returns c =
    let k = c.in-Some.first in
    let q = c.name.result.now in
    record { first = first_by c.args.roster.now c.args.self.now k q c.has_lesser.result c.in-Some.ensures.least (c.requires.sound.numbers k q c.name.ensures.name) c.has_lesser.ensures.lesser }
