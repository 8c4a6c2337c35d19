use Rattle.law_core.proofs.ReadingLemmas.{acts_unpack_nothing}
use Rattle.law_core.proofs.readings.acts_unpack_nothing.Goals as goal

pub returns : goal.returns
returns c = acts_unpack_nothing
