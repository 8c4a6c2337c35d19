use Rattle.law_peeks.proofs.NotedLemmas.{notes_go_on}
use Rattle.law_peeks.proofs.noted.notes_go_on.Goals as goal

pub returns : goal.returns
returns c = notes_go_on
