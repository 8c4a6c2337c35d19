use Rattle.std.proofs.Common.{sym, ◌∙◌}
use Rattle.checkpoint_checks.specs.Maps.{has_in}
use Rattle.checkpoint_checks.proofs.MapLemmas.{has_in-insert}
use Rattle.checkpoint_checks.proofs.standing.meet.Goals as goal

pub returns-then-fresh-clause-met : goal.returns-then-fresh-clause-met
returns-then-fresh-clause-met c = has_in-insert c.args.met.now c.insert.new.self c.args.future c.in_ok-fresh.ensures.updates

pub returns-then-fresh-clause-fresh : goal.returns-then-fresh-clause-fresh
unfolding has_in
returns-then-fresh-clause-fresh c = sym c.in_ok-fresh.ensures.added ∙ c.if-fresh.true

pub returns-else-fresh-clause-fresh : goal.returns-else-fresh-clause-fresh
unfolding has_in
returns-else-fresh-clause-fresh c = λ u. sym c.in_ok-fresh.ensures.added ∙ c.if-fresh.false
