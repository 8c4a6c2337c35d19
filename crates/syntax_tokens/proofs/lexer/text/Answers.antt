use Rattle.std.proofs.Common.{◌≡◌, ℕ, List, ◌∷◌, ◌+◌, sym, ap, ◌∙◌, arith, get_or, true, false}
use Rattle.std.specs.Prelude.{string_bytes}
use Rattle.syntax_tokens.specs.declared.token.Token.TheVariants.{Text}
use Rattle.asp_model.specs.WellFormed.{is_printable}
use Rattle.syntax_tokens.specs.Tokens.{lexeme, InText, Between}
use Rattle.syntax_tokens.specs.Cursors.{from}
use Rattle.syntax_tokens.proofs.Lexing.{quote_first, text_more, text_bad, text_over, text_ascii, ended}
use Rattle.syntax_tokens.proofs.lexer.text.Goals as goal

pub loop-i-init : goal.loop-i-init
loop-i-init c = record {
  same = ap (λ (w : List ℕ). from (InText c.args.start w) c.args.bytes.now (c.args.start + 1)) c.new-text.ensures.bytes ∙ sym (quote_first c.args.bytes.now c.args.start c.requires.within c.requires.quote);
  onward = omega arith;
  within = omega arith;
}

pub returns-then-b-eq34-clause-value : goal.returns-then-b-eq34-clause-value
returns-then-b-eq34-clause-value c =
    ap (λ (w : List ℕ). lexeme (Text w) c.args.start ∷ from Between c.args.bytes.now (c.loop-i.i + 1)) c.new.ensures
    ∙ sym (text_over c.args.start (string_bytes c.loop-i.text) c.args.bytes.now c.loop-i.i c.loop-i-test.true c.if-b-eq34.true) ∙ c.loop-i.invariant.same

pub returns-then-not-is_text-clause-value : goal.returns-then-not-is_text-clause-value
returns-then-not-is_text-clause-value c =
    let other : is_printable (get_or c.args.bytes.now c.loop-i.i 0) ≡ false = sym c.is_text.ensures ∙ c.if-not-is_text.true in
    sym (text_bad c.args.start (string_bytes c.loop-i.text) c.args.bytes.now c.loop-i.i c.loop-i-test.true c.if-b-eq34.false other) ∙ c.loop-i.invariant.same

pub with_byte-requires : goal.with_byte-requires
with_byte-requires c = record { ascii = text_ascii (get_or c.args.bytes.now c.loop-i.i 0) (sym c.is_text.ensures ∙ c.if-not-is_text.false) }

pub loop-i-preserved : goal.loop-i-preserved
loop-i-preserved c =
    let inside : is_printable (get_or c.args.bytes.now c.loop-i.i 0) ≡ true = sym c.is_text.ensures ∙ c.if-not-is_text.false in
    record {
      same = ap (λ (w : List ℕ). from (InText c.args.start w) c.args.bytes.now (c.loop-i.i + 1)) c.in_ok-text.ensures.text
          ∙ sym (text_more c.args.start (string_bytes c.loop-i.text) c.args.bytes.now c.loop-i.i c.loop-i-test.true c.if-b-eq34.false inside) ∙ c.loop-i.invariant.same;
      onward = omega arith;
      within = omega arith;
    }

pub returns-clause-value : goal.returns-clause-value
returns-clause-value c = sym (ended (InText c.args.start (string_bytes c.loop-i.text)) c.args.bytes.now c.loop-i.i c.loop-i-test.false) ∙ c.loop-i.invariant.same
