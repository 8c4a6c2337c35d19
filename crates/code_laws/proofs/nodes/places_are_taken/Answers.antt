use Rattle.code_laws.proofs.TurnLemmas.{goes_on}
use Rattle.code_laws.proofs.nodes.places_are_taken.Goals as goal

pub returns : goal.returns
returns c = record { law = goes_on }
