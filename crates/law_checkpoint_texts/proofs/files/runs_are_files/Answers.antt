use Rattle.law_checkpoint_texts.proofs.FileLemmas.{runs_are_files}
use Rattle.law_checkpoint_texts.proofs.files.runs_are_files.Goals as goal

pub returns : goal.returns
returns c = runs_are_files
