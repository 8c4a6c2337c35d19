use Rattle.code_table.proofs.TermTrees.{var_is}
use Rattle.checkpoint_reading.proofs.TermLemmas.{as_tree}
use Rattle.checkpoint_reading.proofs.terms.read_var.Goals as goal

pub returns : goal.returns
returns c = record { read = rw c.in_ok-name.ensures.read (as_tree _ _ (var_is c.in_ok-name.name c.blank.result)) }
