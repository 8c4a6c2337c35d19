use Rattle.checkpoint_files.proofs.FileLemmas.{short_body}
use Rattle.checkpoint_files.proofs.checkpoints.read_body.Goals as goal

pub returns-in-len1 : goal.returns-in-len1
returns-in-len1 c = record { reading = short_body c.args.lines.now c.in-len1.len_below }
