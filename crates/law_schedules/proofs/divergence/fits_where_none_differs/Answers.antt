use Rattle.law_schedules.proofs.DivergenceLemmas.{fits_where_none_differs}
use Rattle.law_schedules.proofs.divergence.fits_where_none_differs.Goals as goal

pub returns : goal.returns
returns c = fits_where_none_differs
