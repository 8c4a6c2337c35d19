use Rattle.code_table.proofs.TermTrees.{loc_is}
use Rattle.checkpoint_reading.proofs.TermLemmas.{as_tree}
use Rattle.checkpoint_reading.proofs.terms.read_loc.Goals as goal

pub returns : goal.returns
returns c = record { read = rw c.in_ok-place.ensures.read (as_tree _ _ (loc_is c.in_ok-place.place c.blank.result)) }
