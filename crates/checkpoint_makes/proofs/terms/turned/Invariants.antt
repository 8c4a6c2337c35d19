use Rattle.std.proofs.Common.{◌≡◌, ◌++◌, reverse, length}
use Rattle.checkpoint_makes.proofs.terms.turned.Given as goal

abbrev pub invariant-loop-held : goal.invariant-loop-held
invariant-loop-held l = l.turned.items ++ reverse l.left.items ≡ reverse l.initial.left.items

abbrev pub decreases-loop-held : goal.decreases-loop-held
decreases-loop-held l = length l.left.items
