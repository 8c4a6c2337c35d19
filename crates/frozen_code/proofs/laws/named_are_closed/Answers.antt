use Rattle.frozen_code.proofs.NamedLemmas.{named_are_closed}
use Rattle.frozen_code.proofs.laws.named_are_closed.Goals as goal

pub returns : goal.returns
returns c = record { law = named_are_closed }
