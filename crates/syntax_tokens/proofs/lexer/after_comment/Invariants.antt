use Rattle.std.proofs.Common.{◌≡◌, ◌-◌, ◌≤◌, length}
use Rattle.syntax_tokens.specs.Tokens.{InComment}
use Rattle.syntax_tokens.specs.Cursors.{from}
use Rattle.syntax_tokens.proofs.lexer.after_comment.Given as goal

abbrev pub invariant-loop-i : goal.invariant-loop-i
invariant-loop-i l = record {
  same : from InComment l.bytes l.i ≡ from InComment l.bytes l.start;
  onward : l.start ≤ l.i;
  within : l.i ≤ length l.bytes;
}

abbrev pub decreases-loop-i : goal.decreases-loop-i
decreases-loop-i l = length l.bytes - l.i
