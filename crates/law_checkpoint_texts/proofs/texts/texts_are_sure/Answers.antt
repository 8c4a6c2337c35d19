use Rattle.law_checkpoint_texts.proofs.FileLemmas.{texts_are_sure}
use Rattle.law_checkpoint_texts.proofs.texts.texts_are_sure.Goals as goal

pub returns : goal.returns
returns c = texts_are_sure
