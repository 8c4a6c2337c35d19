use Rattle.law_steps.proofs.ReplayLemmas.{fits_exactly}
use Rattle.law_steps.proofs.replays.fits_where_run.Goals as goal

pub returns : goal.returns
returns c = fits_exactly
