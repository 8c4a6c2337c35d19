use Rattle.law_checkpoints.proofs.StandingLemmas.{times_are_of_list}
use Rattle.law_checkpoints.proofs.sound.times_are_of_list.Goals as goal

pub returns : goal.returns
returns c = times_are_of_list
