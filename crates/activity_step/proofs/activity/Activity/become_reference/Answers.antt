use Rattle.std.proofs.Common.{OnOk, subst}
use Rattle.asp_model.specs.Names.{Name}
use Rattle.asp_model.specs.Store.{Reference}
use Rattle.activity_step.specs.Activities.{StandsFor, with_new_cell}
use Rattle.activity_step.proofs.activity.Activity.become_reference.Goals as goal

pub returns-clause-becomes : goal.returns-clause-becomes
returns-clause-becomes c =
    λ a contexts redex h splits.
    subst (λ (n : Name). OnOk c.become_cell.result (StandsFor c.become_cell.new.self (with_new_cell contexts (Reference n) a))) c.in_ok-new.ensures.ok (c.become_cell.ensures.becomes a contexts redex h splits)
