use Rattle.std.proofs.Common.{ap, ◌∙◌}
use Rattle.code_table.specs.Tables.{piece_of}
use Rattle.step_machine.proofs.machine.Machine.variable_at.Goals as goal

pub returns : goal.returns
returns c = record {
  variable = λ ps. record { leaf = c.in-Leaf.leaf; is = c.in-Some.ensures.child ps ∙ ap (piece_of ps) c.in-Leaf.is; place = c.in-Some-place_of.ensures.place };
}
