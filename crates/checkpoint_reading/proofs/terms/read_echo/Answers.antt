use Rattle.code_table.proofs.TermTrees.{echo_is}
use Rattle.checkpoint_reading.proofs.TermLemmas.{as_tree}
use Rattle.checkpoint_reading.proofs.terms.read_echo.Goals as goal

pub returns : goal.returns
returns c = record { read = rw c.in_ok-echoed.ensures.read (as_tree _ _ (echo_is c.in_ok-echoed.echoed c.blank.result)) }
