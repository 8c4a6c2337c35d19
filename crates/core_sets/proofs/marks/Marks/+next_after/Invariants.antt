use Rattle.core_sets.proofs.marks.Marks.+next_after.Given as goal

abbrev pub decreases-next_after : goal.decreases-next_after
decreases-next_after l = l.node
