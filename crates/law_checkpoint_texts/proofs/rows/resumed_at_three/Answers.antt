use Rattle.std.proofs.Common.{refl}
use Rattle.std.specs.Fmt.{digits}
use Rattle.checkpoint_text.specs.Reading.{term}
use Rattle.law_checkpoint_texts.proofs.rows.resumed_at_three.Goals as goal

pub returns : goal.returns
unfolding digits term
returns c = refl
