use Rattle.std.proofs.Common.{◌≡◌, ◌≤◌, ◌-◌, length}
use Rattle.asp_model.specs.declared.limits.TheConstants.{MOST_LEVEL}
use Rattle.syntax_tokens.specs.Tokens.{Between, lexemes_of}
use Rattle.syntax_tokens.specs.Cursors.{from}
use Rattle.asp_syntax.specs.Read.{read as read_from, read_all}
use Rattle.syntax_tokens.specs.WalkShapes.{walk_shape}
use Rattle.syntax_states.specs.Shapes.{state_shape}
use Rattle.syntax_tokens.specs.Ordered.{IsOrdered}
use Rattle.syntax_grammar.proofs.Shallow.{IsShallow}
use Rattle.asp_syntax.proofs.reading.read_from.Given as goal

abbrev pub invariant-loop-here : goal.invariant-loop-here
invariant-loop-here l = record {
  same : read_from (state_shape l.state) (walk_shape l.walk) (from Between l.bytes l.after) ≡ read_all (lexemes_of l.bytes);
  low : l.walk.level ≤ MOST_LEVEL;
  ordered : IsOrdered (walk_shape l.walk);
  shallow : IsShallow (state_shape l.state) (walk_shape l.walk);
  within : l.after ≤ length l.bytes;
}

abbrev pub decreases-loop-here : goal.decreases-loop-here
decreases-loop-here l = length l.bytes - l.after
