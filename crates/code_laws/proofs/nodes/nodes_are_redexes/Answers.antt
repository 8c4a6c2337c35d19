use Rattle.code_laws.proofs.TurnLemmas.{splits_here}
use Rattle.code_laws.proofs.nodes.nodes_are_redexes.Goals as goal

pub returns : goal.returns
returns c = record { law = splits_here }
