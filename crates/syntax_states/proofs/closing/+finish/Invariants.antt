use Rattle.std.proofs.Common.{length}
use Rattle.syntax_states.proofs.closing.+finish.Given as goal

abbrev pub decreases-finish : goal.decreases-finish
decreases-finish l = length l.state.now.outer.items
