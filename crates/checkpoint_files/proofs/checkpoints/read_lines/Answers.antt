use Rattle.checkpoint_files.proofs.FileLemmas.{short_text}
use Rattle.checkpoint_files.proofs.checkpoints.read_lines.Goals as goal

pub returns-in-len1 : goal.returns-in-len1
returns-in-len1 c = record { reading = short_text c.args.program.now c.args.lines.now c.in-len1.len_below }
