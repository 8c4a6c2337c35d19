use Rattle.std.proofs.Common.{◌≡◌, [], ap, subst, ◌∙◌}
use Rattle.asp_model.specs.History.{HistoryShape}
use Rattle.asp_model.specs.Shapes.{tree_of}
use Rattle.asp_model.specs.Term.{Tree, locations}
use Rattle.asp_core.specs.Cores.{history_of}
use Rattle.asp_core.specs.EndOfRun.{IsEndOfRun}
use Rattle.asp_core.specs.PlannedEnds.{IsEndByChoice, IsEndByPlan}
use Rattle.asp_core.proofs.OverLemmas.{ended_as}
use Rattle.worker_pool.proofs.SenderLemmas.{alone}
use Rattle.worker_pool.proofs.pool.run.Goals as goal

pub returns-clause-end : goal.returns-clause-end
returns-clause-end g c =
    ended_as IsEndOfRun c.end_of_run.result (history_of c.in_ok-core-2.core) (history_of c.in_ok-core.core) (tree_of c.args.program.now.program.root) c.args.settings.budget
    c.in_ok-core-2.ensures.begins c.in_ok-core.ensures.history c.end_of_run.ensures.end

pub returns-clause-by_plan : goal.returns-clause-by_plan
returns-clause-by_plan g c =
    let plan = c.args.settings.plan in
    let policies = c.args.policies in
    let by = c.in_ok-core-2.ensures.by_plan plan policies c.in_ok-core.ensures.by_plan in
    ended_as (IsEndByPlan g.P.UpdatePolicy.answer g.P.UpdatePolicy.asked plan policies) c.end_of_run.result (history_of c.in_ok-core-2.core) (history_of c.in_ok-core.core) (tree_of c.args.program.now.program.root) c.args.settings.budget
    c.in_ok-core-2.ensures.begins c.in_ok-core.ensures.history (c.end_of_run.ensures.by_plan plan policies by)

pub returns-clause-chosen : goal.returns-clause-chosen
returns-clause-chosen g c =
    let plan = c.args.settings.plan in
    let policies = c.args.policies in
    let new = c.in_ok-core.ensures in
    let done = c.in_ok-core-2.ensures in
    let ended = c.end_of_run.ensures.chosen plan policies (done.by_plan plan policies new.by_plan) (done.chosen new.chosen) (done.stopped new.stopped) in
    ended_as (IsEndByChoice g.P.UpdatePolicy.answer g.P.UpdatePolicy.asked plan policies) c.end_of_run.result (history_of c.in_ok-core-2.core) (history_of c.in_ok-core.core) (tree_of c.args.program.now.program.root) c.args.settings.budget
    done.begins new.history ended

pub returns-clause-alone : goal.returns-clause-alone
returns-clause-alone g c =
    let later = c.in_ok-core-2.ensures.begins in
    let same = later.program ∙ ap (λ (h : HistoryShape). h.program) c.in_ok-core.ensures.history in
    alone _ _ _ (subst (λ (t : Tree). locations t ≡ []) same c.in_ok-core-2.ensures.over.is.bare)
