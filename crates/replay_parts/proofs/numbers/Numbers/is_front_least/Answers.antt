use Rattle.replay_parts.proofs.NumberLemmas.{front_by, no_front}
use Rattle.replay_parts.proofs.numbers.Numbers.is_front_least.Goals as goal

pub returns-in-Some : goal.returns-in-Some
returns-in-Some c = record { least = front_by c.args.self.now c.in-Some.front c.has_lesser.result c.in-Some.is c.has_lesser.ensures.lesser }

pub returns-in-None : goal.returns-in-None
returns-in-None c = record { least = no_front c.args.self.now c.in-None.is }
