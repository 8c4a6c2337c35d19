use Rattle.law_paths.proofs.OutcomeLemmas.{reports_agree}
use Rattle.law_paths.proofs.reading.reports_agree.Goals as goal

pub returns : goal.returns
returns c = reports_agree
