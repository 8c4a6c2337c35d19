use Rattle.std.proofs.Common.{refl}
use Rattle.std.specs.Fmt.{digits}
use Rattle.worked_rows.proofs.states.circling_state.Goals as goal

pub returns : goal.returns
unfolding digits
returns c = record { future = refl; object = refl }
