use Rattle.asp_core.proofs.OverLemmas.{ended_by_choice, ended_by_plan, outcome_ended, outcome_told}
use Rattle.asp_core.proofs.finishing.end_of_run.Goals as goal

pub returns-clause-end : goal.returns-clause-end
returns-clause-end g c =
    let over = c.requires.over in
    outcome_ended c.args.core over c.outcome.result (c.outcome.ensures.end over.run over.is) (c.outcome.ensures.outcome over.run over.is)

pub returns-clause-told : goal.returns-clause-told
returns-clause-told g c =
    let over = c.requires.over in
    outcome_told c.args.core over c.outcome.result (c.outcome.ensures.end over.run over.is) (c.outcome.ensures.outcome over.run over.is)

pub returns-clause-by_plan : goal.returns-clause-by_plan
returns-clause-by_plan g c =
    let over = c.requires.over in
    ended_by_plan g.P.UpdatePolicy.answer g.P.UpdatePolicy.asked c.args.core over c.outcome.result (c.outcome.ensures.end over.run over.is) (c.outcome.ensures.outcome over.run over.is)

pub returns-clause-chosen : goal.returns-clause-chosen
returns-clause-chosen g c =
    let over = c.requires.over in
    ended_by_choice g.P.UpdatePolicy.answer g.P.UpdatePolicy.asked c.args.core over c.outcome.result (c.outcome.ensures.end over.run over.is) (c.outcome.ensures.outcome over.run over.is)
