use Rattle.std.proofs.Common.{refl}
use Rattle.std.specs.Fmt.{digits}
use Rattle.worked_rows.proofs.states.two_copies_state.Goals as goal

pub returns : goal.returns
unfolding digits
returns c = refl
