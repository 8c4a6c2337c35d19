use Rattle.law_checkpoint_texts.proofs.FileLemmas.{files_are_own}
use Rattle.law_checkpoint_texts.proofs.files.files_are_own.Goals as goal

pub returns : goal.returns
returns c = files_are_own
