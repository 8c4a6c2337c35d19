use Rattle.syntax_terms.specs.Shapes.{open_shape, stack}
use Rattle.syntax_states.proofs.Others.{operand_becomes}
use Rattle.syntax_states.proofs.machine.operand.Goals as goal

pub returns-in_ok-mode-in_default : goal.returns-in_ok-mode-in_default
returns-in_ok-mode-in_default c =
    operand_becomes c.args.token c.args.at c.in_ok-mode-in_default.mode c.enter.new.mode (open_shape c.args.state.now.inner) (stack c.args.state.now.outer.items)
    c.in_default.not-Open c.in_ok-mode-in_default.ensures c.enter.ensures
