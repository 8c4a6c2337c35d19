use Rattle.std.proofs.Common.{Err, subst}
use Rattle.syntax_tokens.specs.Tokens.{lexemes_of}
use Rattle.asp_syntax.specs.declared.error.SyntaxError.{SyntaxError}
use Rattle.asp_syntax.specs.Correct.{IfFault, IsOkWith}
use Rattle.asp_syntax.specs.Faults.{FirstFault}
use Rattle.explain.proofs.findings.explain.Goals as goal

pub of_program-requires : goal.of_program-requires
of_program-requires c = record { program = c.in-Ok.ensures.program; only = λ other h. c.in-Ok.ensures.only other h }

pub of_syntax-requires : goal.of_syntax-requires
of_syntax-requires c =
    let text = lexemes_of c.args.bytes.now in
    record {
      fault = record {
        first = subst (λ (e : SyntaxError). IfFault (Err e) (λ f. FirstFault text f)) c.in-Err-Fault.field-0-is c.in-Err-Fault.ensures.fault;
        none = λ program h. subst (λ (e : SyntaxError). IsOkWith (Err e) program) c.in-Err-Fault.field-0-is (c.in-Err-Fault.ensures.only program h);
      };
    }
