use Rattle.code_table.specs.Tables.{pieces}
use Rattle.step_machine.proofs.machine.Machine.nested_get.Goals as goal

pub returns : goal.returns
returns c = record { redex = λ k is. (is, c.in-Some.ensures.variable (pieces k)) }
