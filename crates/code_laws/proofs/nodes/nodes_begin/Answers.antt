use Rattle.code_laws.proofs.TurnLemmas.{begins}
use Rattle.code_laws.proofs.nodes.nodes_begin.Goals as goal

pub returns : goal.returns
returns c = record { law = begins }
