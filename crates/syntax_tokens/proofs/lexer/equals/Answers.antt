use Rattle.std.proofs.Common.{sym, inl, inr, ◌+◌}
use Rattle.syntax_tokens.proofs.Lexing.{Lacks, equals_equals, equals_alone}
use Rattle.syntax_tokens.proofs.lexer.equals.Goals as goal
use Rattle.syntax_tokens.proofs.lexer.equals.Goals.{else-second-bytes-via-then-second-bytes+else-bytes-second-eq61, else-second-bytes-via-else-second-bytes}

pub returns-then-bytes-second-eq61-clause-value : goal.returns-then-bytes-second-eq61-clause-value
returns-then-bytes-second-eq61-clause-value c = sym (equals_equals c.args.bytes.now c.args.start c.if-second-bytes.true c.requires.equals c.if-bytes-second-eq61.true)

pub returns-else-second-bytes-clause-value : goal.returns-else-second-bytes-clause-value
returns-else-second-bytes-clause-value c =
    let lacks : Lacks 61 c.args.bytes.now (c.args.start + 1) = elim c.else-second-bytes.branch [
      | else-second-bytes-via-then-second-bytes+else-bytes-second-eq61 w ↦ inr (w.if-second-bytes.true, w.if-bytes-second-eq61.false)
      | else-second-bytes-via-else-second-bytes w ↦ inl w.if-second-bytes.false
    ] in
    sym (equals_alone c.args.bytes.now c.args.start c.requires.within c.requires.equals lacks)
