use Rattle.std.proofs.Common.{◌+◌, sym, ◌∙◌, arith, inl, inr}
use Rattle.syntax_tokens.specs.Tokens.{Between}
use Rattle.syntax_tokens.proofs.Lexing.{Lacks, blank_more, slash_comment, slash_alone, ended}
use Rattle.syntax_tokens.proofs.lexer.scan.Goals as goal
use Rattle.syntax_tokens.proofs.lexer.scan.Goals.{else-i-bytes-via-then-i-bytes+else-bytes-i-eq47, else-i-bytes-via-else-i-bytes}

pub loop-i-preserved-then-is_blank : goal.loop-i-preserved-then-is_blank
loop-i-preserved-then-is_blank c = record {
  same = sym (blank_more c.args.bytes.now c.loop-i.i c.loop-i-test.true (sym c.is_blank.ensures ∙ c.if-is_blank.true)) ∙ c.loop-i.invariant.same;
  onward = omega arith;
  within = omega arith;
}

pub loop-i-preserved : goal.loop-i-preserved
loop-i-preserved c = record {
  same = c.after_comment-i.ensures.value ∙ sym (slash_comment c.args.bytes.now c.loop-i.i c.if-i-bytes.true c.if-b-ne47.false c.if-bytes-i-eq47.true) ∙ c.loop-i.invariant.same;
  onward = omega arith;
  within = c.after_comment-i.ensures.within;
}

pub returns-else-i-bytes-clause-value : goal.returns-else-i-bytes-clause-value
returns-else-i-bytes-clause-value c =
    let lacks : Lacks 47 c.args.bytes.now (c.loop-i.i + 1) = elim c.else-i-bytes.branch [
      | else-i-bytes-via-then-i-bytes+else-bytes-i-eq47 w ↦ inr (w.if-i-bytes.true, w.if-bytes-i-eq47.false)
      | else-i-bytes-via-else-i-bytes w ↦ inl w.if-i-bytes.false
    ] in
    sym (slash_alone c.args.bytes.now c.loop-i.i c.loop-i-test.true c.if-b-ne47.false lacks) ∙ c.loop-i.invariant.same

pub returns-clause-value : goal.returns-clause-value
returns-clause-value c = sym (ended Between c.args.bytes.now c.loop-i.i c.loop-i-test.false) ∙ c.loop-i.invariant.same
