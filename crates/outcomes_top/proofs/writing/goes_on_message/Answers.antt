use Rattle.std.proofs.Common.{rules, append_assoc}
use Rattle.outcomes_top.proofs.writing.goes_on_message.Goals as goal

pub returns : goal.returns
returns c = simp append_assoc (search rules)
