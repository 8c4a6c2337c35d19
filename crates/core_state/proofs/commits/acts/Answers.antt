use Rattle.std.proofs.Common.{◌∙◌}
use Rattle.core_state.proofs.CommitLemmas.{none_left, some_left}
use Rattle.core_state.proofs.commits.acts.Goals as goal

pub returns-then-is_used : goal.returns-then-is_used
returns-then-is_used c = record { acts = λ o is. none_left c.args.grant c.args.taken o (c.is_used.ensures.used c.if-is_used.true) }

pub returns : goal.returns
returns c = record { acts = λ o is. c.communicates.ensures ∙ is ∙ some_left c.args.grant c.args.taken o (c.is_used.ensures.left c.if-is_used.false) }
