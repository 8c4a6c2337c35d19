use Rattle.std.proofs.Common.{◌≡◌, sym, ◌∙◌, ap, arith, inl, inr, w64, ℤ, pos, ◌∷◌}
use Rattle.std.proofs.lemmas.Int.{to_z_pos}
use Rattle.syntax_tokens.specs.declared.token.Token.TheVariants.{Number}
use Rattle.syntax_tokens.specs.Bytes.{is_digit}
use Rattle.syntax_tokens.specs.Tokens.{lexeme, InNumber, Between}
use Rattle.syntax_tokens.specs.Cursors.{from}
use Rattle.syntax_tokens.proofs.Lexing.{digit_first, digit_more, digit_past, number_is, Past}
use Rattle.syntax_tokens.proofs.lexer.number.Goals as goal
use Rattle.syntax_tokens.proofs.lexer.number.Goals.{then-loop-i-test+else-is_digit, else-loop-i-test}

pub loop-i-init : goal.loop-i-init
loop-i-init c = record {
  same = sym (digit_first c.args.bytes.now c.args.start c.requires.within c.requires.blank c.requires.digit);
  small = omega arith;
  onward = omega arith;
  within = omega arith;
}

pub returns-then-more-ge9223372036854775808-clause-value :
    goal.returns-then-more-ge9223372036854775808-clause-value
returns-then-more-ge9223372036854775808-clause-value c =
    sym (digit_past c.args.start c.loop-i.n c.args.bytes.now c.loop-i.i c.loop-i-test.true (sym c.is_digit.ensures ∙ c.if-is_digit.true) c.if-more-ge9223372036854775808.true) ∙ c.loop-i.invariant.same

pub loop-i-preserved : goal.loop-i-preserved
loop-i-preserved c = record {
  same = sym (digit_more c.args.start c.loop-i.n c.args.bytes.now c.loop-i.i c.loop-i-test.true (sym c.is_digit.ensures ∙ c.if-is_digit.true) c.if-more-ge9223372036854775808.false) ∙ c.loop-i.invariant.same;
  small = c.if-more-ge9223372036854775808.false;
  onward = omega arith;
  within = omega arith;
}

pub returns-clause-value : goal.returns-clause-value
returns-clause-value c =
    let past : Past is_digit c.args.bytes.now c.loop-i.i = elim c.loop-i-test.branch [ then-loop-i-test+else-is_digit w ↦ inr (w.loop-i-test.true, sym w.is_digit.ensures ∙ w.if-is_digit.false) | else-loop-i-test w ↦ inl w.loop-i-test.false ] in
    let value : from (InNumber c.args.start c.loop-i.n) c.args.bytes.now c.loop-i.i ≡ lexeme (Number (pos c.loop-i.n)) c.args.start ∷ from Between c.args.bytes.now c.loop-i.i = number_is c.args.start c.loop-i.n c.args.bytes.now c.loop-i.i past in
    ap (λ (z : ℤ). lexeme (Number z) c.args.start ∷ from Between c.args.bytes.now c.loop-i.i) (to_z_pos w64 c.loop-i.n c.loop-i.invariant.small) ∙ sym value ∙ c.loop-i.invariant.same
