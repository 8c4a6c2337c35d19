use Rattle.asp_model.specs.Shapes.{outcome_shape, tree_of}
use Rattle.run_ends.specs.declared.ends.RunEnd.{RunEnd}
use Rattle.replay_one.proofs.PlainLemmas.{plain_replays, plain_spent, plain_within}
use Rattle.replay_parts.proofs.ResultLemmas.{if_ok}
use Rattle.replay_one.proofs.run.run_plain.Goals as goal

pub returns-clause-replays : goal.returns-clause-replays
returns-clause-replays c = if_ok c.run_within.result _ _ (λ (r : RunEnd) e. plain_replays c.args.budget (tree_of c.args.program.now.program.root) (outcome_shape r.outcome) e) c.run_within.ensures.outcome

pub returns-clause-within : goal.returns-clause-within
returns-clause-within c = if_ok c.run_within.result _ _ (λ (r : RunEnd) e. plain_within c.args.budget (tree_of c.args.program.now.program.root) (outcome_shape r.outcome) e) c.run_within.ensures.outcome

pub returns-clause-spent : goal.returns-clause-spent
returns-clause-spent c = if_ok c.run_within.result _ _ (λ (r : RunEnd) e. plain_spent c.args.budget (tree_of c.args.program.now.program.root) (outcome_shape r.outcome) e) c.run_within.ensures.outcome
