use Rattle.std.proofs.Common.{sym}
use Rattle.replay_parts.proofs.roster.Roster.number_guessed.Goals as goal

pub returns-then-has : goal.returns-then-has
returns-then-has c = record { number = sym (c.has.ensures.has c.if-has.true) }
