use Rattle.std.proofs.Common.{◌∙◌}
use Rattle.asp_check.specs.Sets.{arity_in}
use Rattle.asp_check.proofs.arity.known_arity.Goals as goal

pub returns : goal.returns
unfolding arity_in
returns c = c.copied.ensures ∙ c.get.ensures.value
