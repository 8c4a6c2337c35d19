use Rattle.command_line.proofs.update.+add_pairs.Given as goal

abbrev pub decreases-add_pairs : goal.decreases-add_pairs
decreases-add_pairs l = l.most
