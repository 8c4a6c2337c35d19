use Rattle.frozen_code.proofs.NamedLemmas.{names_are_taken_back}
use Rattle.frozen_code.proofs.laws.names_are_taken_back.Goals as goal

pub returns : goal.returns
returns c = record { law = names_are_taken_back }
