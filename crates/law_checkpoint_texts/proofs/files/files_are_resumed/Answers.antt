use Rattle.law_checkpoint_texts.proofs.FileLemmas.{files_are_resumed}
use Rattle.law_checkpoint_texts.proofs.files.files_are_resumed.Goals as goal

pub returns : goal.returns
returns c = files_are_resumed
