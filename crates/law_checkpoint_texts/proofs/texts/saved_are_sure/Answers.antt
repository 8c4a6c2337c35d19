use Rattle.law_checkpoint_texts.proofs.FileLemmas.{saved_are_sure}
use Rattle.law_checkpoint_texts.proofs.texts.saved_are_sure.Goals as goal

pub returns : goal.returns
returns c = saved_are_sure
