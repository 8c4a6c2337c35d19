use Rattle.code_table.proofs.TermTrees.{pending_is}
use Rattle.checkpoint_reading.proofs.TermLemmas.{as_tree}
use Rattle.checkpoint_reading.proofs.terms.read_pending.Goals as goal

pub returns : goal.returns
returns c = record { read = rw c.in_ok-labels.ensures.read (as_tree _ _ (pending_is c.in_ok-labels.labels c.blank.result)) }
