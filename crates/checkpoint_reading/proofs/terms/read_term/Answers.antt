use Rattle.checkpoint_reading.proofs.TermLemmas.{as_term}
use Rattle.checkpoint_reading.proofs.terms.read_term.Goals as goal

pub returns : goal.returns
returns c = record { read = as_term c.args.items.now c.read_level.new.items c.read_level.result c.read_level.ensures.read }
