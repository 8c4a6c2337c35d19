use Rattle.std.proofs.Common.{◌≡◌, ℕ, ◌≤◌, List, ◌++◌, length, ap, sym, subst, ◌∙◌, arith}
use Rattle.std.specs.Prelude.{string_bytes, string_len}
use Rattle.asp_model.specs.Shapes.{marked_of}
use Rattle.syntax_tokens.specs.Texts.{text_of}
use Rattle.asp_print.specs.Tokens.{tokens_of}
use Rattle.asp_print.specs.Parts.{written}
use Rattle.asp_print.specs.Correct.{IsTextOf}
use Rattle.asp_print.proofs.WritingLemmas.{popped}
use Rattle.asp_print.proofs.PrintingLaws.{printed}
use Rattle.asp_print.proofs.printing.print_program.Goals as goal

pub returns : goal.returns
returns c =
    let program = marked_of c.args.program.now.root in
    let old = c.print_term.new.text in
    let new = c.pop.new.self in
    let whole : string_bytes old ≡ written (tokens_of program) = c.in_ok-print_term.ensures ∙ ap (λ (bs : List ℕ). bs ++ written (tokens_of program)) c.new-text.ensures.bytes in
    let count : string_len old ≡ length (string_bytes old) = omega (arith, old.bytes.ok.0) in
    let short : length (string_bytes new) ≤ string_len old = omega (arith, new.bytes.ok.0, c.pop.ensures.bound) in
    let is : string_bytes new ≡ text_of (tokens_of program) = popped (tokens_of program) (string_bytes old) (string_bytes new) (string_len old) whole count short c.pop.ensures.ascii_bytes in
    record {
      text = is;
      same = λ bytes p. subst (λ (bs : List ℕ). IsTextOf program bs) (sym is) (printed bytes program p);
    }
