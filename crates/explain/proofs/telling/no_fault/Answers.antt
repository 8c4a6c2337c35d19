use Rattle.std.proofs.Common.{rules, append_assoc}
use Rattle.explain.proofs.telling.no_fault.Goals as goal

pub returns : goal.returns
returns c = simp append_assoc (search rules)
