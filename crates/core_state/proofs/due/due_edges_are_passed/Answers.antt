use Rattle.core_state.proofs.DueLemmas.{due_edges_are_passed}
use Rattle.core_state.proofs.due.due_edges_are_passed.Goals as goal

pub returns : goal.returns
returns c = due_edges_are_passed
