use Rattle.checkpoint_files.proofs.FileLemmas.{AreFront}
use Rattle.checkpoint_files.proofs.checkpoints.read_activities.Given as goal

abbrev pub invariant-loop-i : goal.invariant-loop-i
invariant-loop-i l = AreFront l.lines l.i l.activities.items
