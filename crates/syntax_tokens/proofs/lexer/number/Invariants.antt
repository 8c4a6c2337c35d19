use Rattle.std.proofs.Common.{◌≡◌, ◌-◌, ◌<◌, ◌≤◌, ◌^◌, length}
use Rattle.syntax_tokens.specs.Tokens.{Between, InNumber}
use Rattle.syntax_tokens.specs.Cursors.{from}
use Rattle.syntax_tokens.proofs.lexer.number.Given as goal

abbrev pub invariant-loop-i : goal.invariant-loop-i
invariant-loop-i l = record {
  same : from (InNumber l.start l.n) l.bytes l.i ≡ from Between l.bytes l.start;
  small : l.n < 2 ^ 63;
  onward : l.start < l.i;
  within : l.i ≤ length l.bytes;
}

abbrev pub decreases-loop-i : goal.decreases-loop-i
decreases-loop-i l = length l.bytes - l.i
