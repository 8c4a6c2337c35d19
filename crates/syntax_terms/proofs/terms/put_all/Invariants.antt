use Rattle.std.proofs.Common.{◌≡◌, length}
use Rattle.syntax_grammar.specs.States.{put_all as all_puts}
use Rattle.syntax_terms.specs.Shapes.{part_shape, put_stack}
use Rattle.syntax_terms.proofs.terms.put_all.Given as goal

abbrev pub invariant-loop-access : goal.invariant-loop-access
invariant-loop-access l = all_puts (put_stack l.puts.items) (part_shape l.whole) ≡ all_puts (put_stack l.fn.puts.items) (part_shape l.fn.part)

abbrev pub decreases-loop-access : goal.decreases-loop-access
decreases-loop-access l = length l.puts.items
