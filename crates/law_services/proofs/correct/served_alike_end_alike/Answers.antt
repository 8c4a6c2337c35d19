use Rattle.law_services.proofs.EndLemmas.{served_alike_end_alike}
use Rattle.law_services.proofs.correct.served_alike_end_alike.Goals as goal

pub returns : goal.returns
returns c = served_alike_end_alike
