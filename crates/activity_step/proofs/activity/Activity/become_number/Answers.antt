use Rattle.std.proofs.Common.{OnOk, subst}
use Rattle.std.specs.Arc.{arc_value}
use Rattle.asp_model.specs.Store.{CellShape}
use Rattle.activity_step.specs.Activities.{StandsFor, with_new_cell}
use Rattle.activity_step.proofs.activity.Activity.become_number.Goals as goal

pub returns-clause-becomes : goal.returns-clause-becomes
returns-clause-becomes c =
    λ a contexts redex h splits.
    subst (λ (d : CellShape). OnOk c.become_cell.result (StandsFor c.become_cell.new.self (with_new_cell contexts d a))) (c.number_cell.ensures.cell (arc_value c.args.self.now.code)) (c.become_cell.ensures.becomes a contexts redex h splits)
