use Rattle.std.proofs.Common.{sym, ◌∙◌, arith}
use Rattle.syntax_tokens.proofs.Lexing.{comment_more, comment_over, comment_end}
use Rattle.syntax_tokens.proofs.lexer.after_comment.Goals as goal

pub returns-then-b-eq10-clause-value : goal.returns-then-b-eq10-clause-value
returns-then-b-eq10-clause-value c = sym (comment_over c.args.bytes.now c.loop-i.i c.loop-i-test.true c.if-b-eq10.true) ∙ c.loop-i.invariant.same

pub loop-i-preserved : goal.loop-i-preserved
loop-i-preserved c = record {
  same = sym (comment_more c.args.bytes.now c.loop-i.i c.loop-i-test.true c.if-b-eq10.false) ∙ c.loop-i.invariant.same;
  onward = omega arith;
  within = omega arith;
}

pub returns-clause-value : goal.returns-clause-value
returns-clause-value c = sym (comment_end c.args.bytes.now c.loop-i.i c.loop-i-test.false) ∙ c.loop-i.invariant.same
