use Rattle.std.proofs.Common.{◌≡◌, ◌-◌, ◌<◌, ◌≤◌, length}
use Rattle.std.specs.Prelude.{string_bytes}
use Rattle.syntax_tokens.specs.Tokens.{Between, InWord}
use Rattle.syntax_tokens.specs.Cursors.{from}
use Rattle.syntax_tokens.proofs.lexer.word.Given as goal

abbrev pub invariant-loop-i : goal.invariant-loop-i
invariant-loop-i l = record {
  same : from (InWord l.start (string_bytes l.text)) l.bytes l.i ≡ from Between l.bytes l.start;
  onward : l.start < l.i;
  within : l.i ≤ length l.bytes;
}

abbrev pub decreases-loop-i : goal.decreases-loop-i
decreases-loop-i l = length l.bytes - l.i
