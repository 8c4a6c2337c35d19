use Rattle.law_peeks.proofs.NotedLemmas.{notes_tell}
use Rattle.law_peeks.proofs.noted.notes_tell.Goals as goal

pub returns : goal.returns
returns c = notes_tell
