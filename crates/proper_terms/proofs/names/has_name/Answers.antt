use Rattle.asp_check.specs.Sets.{names_in}
use Rattle.proper_terms.proofs.names.has_name.Goals as goal

pub returns : goal.returns
unfolding names_in
returns c = c.contains.ensures
