use Rattle.replay_services.proofs.HeardLemmas.{notes_tell}
use Rattle.replay_services.proofs.laws.notes_tell.Goals as goal

pub returns : goal.returns
returns c = notes_tell
