use Rattle.law_checkpoints.proofs.TermLemmas.{terms_are_redexes}
use Rattle.law_checkpoints.proofs.sound.terms_are_redexes.Goals as goal

pub returns : goal.returns
returns c = terms_are_redexes
