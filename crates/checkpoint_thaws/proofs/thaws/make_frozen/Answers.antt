use Rattle.checkpoint_thaws.proofs.StandLemmas.{parts_stand}
use Rattle.checkpoint_thaws.proofs.thaws.make_frozen.Goals as goal

pub returns-clause-stands : goal.returns-clause-stands
returns-clause-stands c = parts_stand _ _ _ c.requires.sound c.in_ok-code.ensures.parts
