use Rattle.syntax_terms.specs.Shapes.{part_shape, open_shape, stack}
use Rattle.syntax_states.specs.Shapes.{operand_shape}
use Rattle.syntax_states.proofs.Others.{have_behind}
use Rattle.syntax_states.proofs.machine.have.Goals as goal

pub returns-in-Ok : goal.returns-in-Ok
returns-in-Ok c =
    have_behind c.behind.result (operand_shape c.args.operand) (part_shape c.in-Ok.part) c.behind.new.state (open_shape c.args.state.now.inner) (stack c.args.state.now.outer.items)
    c.args.token c.in_default.not-Open c.in-Ok.ensures c.behind.ensures
