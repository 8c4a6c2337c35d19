use Rattle.law_paths.proofs.MatchLemmas.{labels_read_alike}
use Rattle.law_paths.proofs.reading.labels_read_alike.Goals as goal

pub returns : goal.returns
returns c = labels_read_alike
