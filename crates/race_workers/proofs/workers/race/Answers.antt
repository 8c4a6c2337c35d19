use Rattle.std.proofs.Common.{◌≡◌, ◌∙◌, IfOk, subst, ap}
use Rattle.asp_model.specs.History.{BeginsWith}
use Rattle.asp_core.specs.declared.cores.Core.{Core}
use Rattle.asp_core.specs.Cores.{history_of}
use Rattle.asp_core.specs.Chosen.{StaysChosen}
use Rattle.asp_core.specs.Plans.{StayByPlan}
use Rattle.asp_core.specs.Stopping.{StaysStopped}
use Rattle.race_desks.specs.declared.desk.SharedDesk.{SharedDesk}
use Rattle.race_desks.specs.Desks.{core_at}
use Rattle.race_desks.specs.Turns.{desk_in}
use Rattle.race_workers.specs.Working.{opened_at}
use Rattle.race_workers.proofs.workers.race.Goals as goal

pub returns-clause-begins : goal.returns-clause-begins
returns-clause-begins g c =
    let same : core_at (opened_at c.in_ok-hub.hub) ≡ c.args.core = ap (λ (x : SharedDesk g.row.P.Denot). core_at (desk_in x)) c.in_ok-hub.ensures.hub.1 ∙ c.in_ok-desk.ensures.core in
    subst (λ (k : Core g.row.P.Denot). IfOk c.closed.result (λ x. BeginsWith (history_of x) (history_of k))) same c.closed.ensures.begins

pub returns-clause-by_plan : goal.returns-clause-by_plan
returns-clause-by_plan g c =
    let same : core_at (opened_at c.in_ok-hub.hub) ≡ c.args.core = ap (λ (x : SharedDesk g.row.P.Denot). core_at (desk_in x)) c.in_ok-hub.ensures.hub.1 ∙ c.in_ok-desk.ensures.core in
    subst (λ (k : Core g.row.P.Denot). IfOk c.closed.result (λ x. StayByPlan g.P.UpdatePolicy.answer g.P.UpdatePolicy.asked k.edges x.edges)) same c.closed.ensures.by_plan

pub returns-clause-chosen : goal.returns-clause-chosen
returns-clause-chosen g c =
    let same : core_at (opened_at c.in_ok-hub.hub) ≡ c.args.core = ap (λ (x : SharedDesk g.row.P.Denot). core_at (desk_in x)) c.in_ok-hub.ensures.hub.1 ∙ c.in_ok-desk.ensures.core in
    subst (λ (k : Core g.row.P.Denot). IfOk c.closed.result (λ x. StaysChosen k x)) same c.closed.ensures.chosen

pub returns-clause-stopped : goal.returns-clause-stopped
returns-clause-stopped g c =
    let same : core_at (opened_at c.in_ok-hub.hub) ≡ c.args.core = ap (λ (x : SharedDesk g.row.P.Denot). core_at (desk_in x)) c.in_ok-hub.ensures.hub.1 ∙ c.in_ok-desk.ensures.core in
    subst (λ (k : Core g.row.P.Denot). IfOk c.closed.result (λ x. StaysStopped (history_of k) (history_of x))) same c.closed.ensures.stopped
