use Rattle.law_services.proofs.OutcomeLemmas.{served_alike_show_alike}
use Rattle.law_services.proofs.correct.served_alike_show_alike.Goals as goal

pub returns : goal.returns
returns c = served_alike_show_alike
