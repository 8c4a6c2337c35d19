use Rattle.asp_check.proofs.NameSets.{names_in-remove}
use Rattle.proper_terms.proofs.names.remove_name.Goals as goal

pub returns : goal.returns
returns c = names_in-remove c.args.names.now c.remove.new.self c.args.name.now c.remove.ensures.updates
