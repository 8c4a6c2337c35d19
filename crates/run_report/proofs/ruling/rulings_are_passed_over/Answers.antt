use Rattle.run_report.proofs.PassedLemmas.{rulings_are_passed_over}
use Rattle.run_report.proofs.ruling.rulings_are_passed_over.Goals as goal

pub returns : goal.returns
returns c = rulings_are_passed_over
