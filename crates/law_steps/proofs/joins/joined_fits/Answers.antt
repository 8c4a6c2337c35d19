use Rattle.law_steps.proofs.JoinLaws.{joined_fits}
use Rattle.law_steps.proofs.joins.joined_fits.Goals as goal

pub returns : goal.returns
returns c = joined_fits
