use Rattle.std.proofs.Common.{◌≡◌, ◌-◌, ◌≤◌, length}
use Rattle.syntax_tokens.specs.Tokens.{Between}
use Rattle.syntax_tokens.specs.Cursors.{from}
use Rattle.syntax_tokens.proofs.lexer.scan.Given as goal

abbrev pub invariant-loop-i : goal.invariant-loop-i
invariant-loop-i l = record {
  same : from Between l.bytes l.i ≡ from Between l.bytes l.at;
  onward : l.at ≤ l.i;
  within : l.i ≤ length l.bytes;
}

abbrev pub decreases-loop-i : goal.decreases-loop-i
decreases-loop-i l = length l.bytes - l.i
