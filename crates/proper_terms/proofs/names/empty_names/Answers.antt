use Rattle.asp_check.proofs.NameSets.{names_in-empty}
use Rattle.proper_terms.proofs.names.empty_names.Goals as goal

pub returns : goal.returns
returns c = names_in-empty _ c.new.ensures.empty
