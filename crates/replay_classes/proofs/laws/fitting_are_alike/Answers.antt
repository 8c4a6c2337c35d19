use Rattle.replay_classes.proofs.CompleteLemmas.{fitting_are_alike}
use Rattle.replay_classes.proofs.laws.fitting_are_alike.Goals as goal

pub returns : goal.returns
returns c = fitting_are_alike
