use Rattle.std.proofs.Common.{sym, inl, inr, ◌+◌}
use Rattle.syntax_tokens.proofs.Lexing.{Lacks, colon_equals, colon_alone}
use Rattle.syntax_tokens.proofs.lexer.colon.Goals as goal
use Rattle.syntax_tokens.proofs.lexer.colon.Goals.{else-second-bytes-via-then-second-bytes+else-bytes-second-eq61, else-second-bytes-via-else-second-bytes}

pub returns-then-bytes-second-eq61-clause-value : goal.returns-then-bytes-second-eq61-clause-value
returns-then-bytes-second-eq61-clause-value c = sym (colon_equals c.args.bytes.now c.args.start c.if-second-bytes.true c.requires.colon c.if-bytes-second-eq61.true)

pub returns-else-second-bytes-clause-value : goal.returns-else-second-bytes-clause-value
returns-else-second-bytes-clause-value c =
    let lacks : Lacks 61 c.args.bytes.now (c.args.start + 1) = elim c.else-second-bytes.branch [
      | else-second-bytes-via-then-second-bytes+else-bytes-second-eq61 w ↦ inr (w.if-second-bytes.true, w.if-bytes-second-eq61.false)
      | else-second-bytes-via-else-second-bytes w ↦ inl w.if-second-bytes.false
    ] in
    sym (colon_alone c.args.bytes.now c.args.start c.requires.within c.requires.colon lacks)
