use Rattle.std.proofs.Common.{rules}
use Rattle.step_machine.proofs.SequenceLemmas.{first_child}
use Rattle.step_machine.proofs.nodes.child_number.Goals as goal

pub returns-then-from-eq0 : goal.returns-then-from-eq0
returns-then-from-eq0 c = record { number = first_child c.args.kind.now c.args.from c.args.done (search (rules, c.if-from-eq0.true)) }
