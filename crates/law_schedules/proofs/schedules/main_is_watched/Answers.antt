use Rattle.law_schedules.proofs.LeastLemmas.{main_is_watched}
use Rattle.law_schedules.proofs.schedules.main_is_watched.Goals as goal

pub returns : goal.returns
returns c = main_is_watched
