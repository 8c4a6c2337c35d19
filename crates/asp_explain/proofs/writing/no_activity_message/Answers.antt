use Rattle.std.proofs.Common.{rules, append_assoc}
use Rattle.asp_explain.proofs.writing.no_activity_message.Goals as goal

pub returns : goal.returns
returns c = simp append_assoc (search rules)
