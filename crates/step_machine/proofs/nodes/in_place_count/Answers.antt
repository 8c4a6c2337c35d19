use Rattle.std.proofs.Common.{rules, arith}
use Rattle.step_machine.proofs.SequenceLemmas.{operands_all, operands_left, rolled_count}
use Rattle.step_machine.proofs.nodes.in_place_count.Goals as goal

pub returns-then-from-eq0 : goal.returns-then-from-eq0
returns-then-from-eq0 c = record { count = λ ps. operands_all c.args.from ps c.args.node.now (search (rules, c.if-from-eq0.true)) }

pub returns-in-Repeat : goal.returns-in-Repeat
returns-in-Repeat c = record { count = λ ps. rolled_count c.args.from ps c.args.node.now (λ e. omega (arith, c.if-from-eq0.false, e)) c.in-Repeat.is }

pub returns-in_default : goal.returns-in_default
returns-in_default c = record { count = λ ps. operands_left c.args.from ps c.args.node.now c.in_default.not-Repeat }
