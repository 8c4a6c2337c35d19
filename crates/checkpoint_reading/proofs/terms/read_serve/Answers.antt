use Rattle.code_table.proofs.TermTrees.{serve_is}
use Rattle.checkpoint_reading.proofs.TermLemmas.{as_tree}
use Rattle.checkpoint_reading.proofs.terms.read_serve.Goals as goal

pub returns : goal.returns
returns c = record { read = rw c.in_ok-labels.ensures.read (as_tree _ _ (serve_is c.in_ok-labels.labels c.blank.result)) }
