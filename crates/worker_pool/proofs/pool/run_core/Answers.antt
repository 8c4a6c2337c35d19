use Rattle.worker_pool.proofs.FurtherLemmas.{chosen_further, further, planned_further, stopped_further}
use Rattle.worker_pool.proofs.pool.run_core.Goals as goal

pub returns-clause-begins : goal.returns-clause-begins
returns-clause-begins g c = further c.finish.result c.in_ok-core.core c.args.core c.in_ok-core.ensures.begins c.finish.ensures.begins

pub returns-clause-by_plan : goal.returns-clause-by_plan
returns-clause-by_plan g c =
    planned_further g.P.UpdatePolicy.answer g.P.UpdatePolicy.asked c.finish.result c.in_ok-core.core c.args.core c.in_ok-core.ensures.by_plan c.finish.ensures.by_plan

pub returns-clause-chosen : goal.returns-clause-chosen
returns-clause-chosen g c = chosen_further c.finish.result c.in_ok-core.core c.args.core c.in_ok-core.ensures.chosen c.finish.ensures.chosen

pub returns-clause-stopped : goal.returns-clause-stopped
returns-clause-stopped g c = stopped_further c.finish.result c.in_ok-core.core c.args.core c.in_ok-core.ensures.stopped c.finish.ensures.stopped
