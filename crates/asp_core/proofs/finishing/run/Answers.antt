use Rattle.asp_model.specs.Shapes.{tree_of}
use Rattle.asp_core.specs.Cores.{history_of}
use Rattle.asp_core.specs.PlannedEnds.{IsEndByChoice, IsEndByPlan}
use Rattle.asp_core.proofs.OverLemmas.{ended_as}
use Rattle.asp_core.proofs.finishing.run.Goals as goal

pub returns-clause-by_plan : goal.returns-clause-by_plan
returns-clause-by_plan g c =
    let begun = c.in_ok-begun.begun in
    let core = c.in_ok-core.core in
    let by = c.in_ok-core.ensures.by_plan c.args.plan c.args.policies c.in_ok-begun.ensures.by_plan in
    ended_as (IsEndByPlan g.P.UpdatePolicy.answer g.P.UpdatePolicy.asked c.args.plan c.args.policies) c.end_of_run.result (history_of core) (history_of begun) (tree_of c.args.program.now.program.root) c.args.budget
    c.in_ok-core.ensures.begins c.in_ok-begun.ensures.history (c.end_of_run.ensures.by_plan c.args.plan c.args.policies by)

pub returns-clause-chosen : goal.returns-clause-chosen
returns-clause-chosen g c =
    let begun = c.in_ok-begun.begun in
    let core = c.in_ok-core.core in
    let new = c.in_ok-begun.ensures in
    let done = c.in_ok-core.ensures in
    let ended = c.end_of_run.ensures.chosen c.args.plan c.args.policies (done.by_plan c.args.plan c.args.policies new.by_plan) (done.chosen new.chosen) (done.stopped new.stopped) in
    ended_as (IsEndByChoice g.P.UpdatePolicy.answer g.P.UpdatePolicy.asked c.args.plan c.args.policies) c.end_of_run.result (history_of core) (history_of begun) (tree_of c.args.program.now.program.root) c.args.budget
    done.begins new.history ended
