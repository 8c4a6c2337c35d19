use Rattle.checkpoint_text.proofs.LineLemmas.{checkpoint_is_read, what_is_read}
use Rattle.checkpoint_text.proofs.laws.checkpoints_are_read.Goals as goal

pub returns : goal.returns
returns c = record { read = checkpoint_is_read; written = what_is_read }
