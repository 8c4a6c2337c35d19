use Rattle.std.proofs.Common.{get_or, ℕ, ◌+◌, List, [], ◌∷◌, ◌++◌, sym, ◌∙◌, ap, arith, inl, inr, if◌then◌else◌, Bool}
use Rattle.std.specs.Prelude.{string_bytes}
use Rattle.syntax_tokens.specs.declared.token.Token.{Token}
use Rattle.syntax_tokens.specs.Bytes.{is_inner, word_token}
use Rattle.syntax_tokens.specs.Tokens.{lexeme, Lexeme, InWord, Between}
use Rattle.syntax_tokens.specs.Cursors.{from, goes_on}
use Rattle.syntax_tokens.proofs.Endings.{word_goes}
use Rattle.syntax_tokens.proofs.Lexing.{letter_first, word_more, word_is, letter_ascii, inner_ascii, Past}
use Rattle.syntax_tokens.proofs.lexer.word.Goals as goal
use Rattle.syntax_tokens.proofs.lexer.word.Goals.{then-loop-i-test+else-is_inner, else-loop-i-test}

pub with_byte-requires : goal.with_byte-requires
with_byte-requires c = record { ascii = letter_ascii (get_or c.args.bytes.now c.args.start 0) c.requires.letter }

pub loop-i-init : goal.loop-i-init
loop-i-init c = record {
  same = ap (λ (w : List ℕ). from (InWord c.args.start w) c.args.bytes.now (c.args.start + 1)) (c.in_ok-text.ensures.text ∙ ap (λ (w : List ℕ). w ++ get_or c.args.bytes.now c.args.start 0 ∷ []) c.new.ensures.bytes)
      ∙ sym (letter_first c.args.bytes.now c.args.start c.requires.within c.requires.blank c.requires.digit c.requires.letter);
  onward = omega arith;
  within = omega arith;
}

pub with_byte-requires-in-loop-i : goal.with_byte-requires-in-loop-i
with_byte-requires-in-loop-i c = record { ascii = inner_ascii (get_or c.args.bytes.now c.loop-i.i 0) (sym c.is_inner.ensures ∙ c.if-is_inner.true) }

pub loop-i-preserved : goal.loop-i-preserved
loop-i-preserved c = record {
  same = ap (λ (w : List ℕ). from (InWord c.args.start w) c.args.bytes.now (c.loop-i.i + 1)) c.in_ok-text-2.ensures.text
      ∙ sym (word_more c.args.start (string_bytes c.loop-i.text) c.args.bytes.now c.loop-i.i c.loop-i-test.true (sym c.is_inner.ensures ∙ c.if-is_inner.true)) ∙ c.loop-i.invariant.same;
  onward = omega arith;
  within = omega arith;
}

pub returns-clause-value : goal.returns-clause-value
returns-clause-value c =
    let past : Past is_inner c.args.bytes.now c.loop-i.i = elim c.loop-i-test.branch [ then-loop-i-test+else-is_inner w ↦ inr (w.loop-i-test.true, sym w.is_inner.ensures ∙ w.if-is_inner.false) | else-loop-i-test w ↦ inl w.loop-i-test.false ] in
    let w : List ℕ = string_bytes c.loop-i.text in
    let more : List Lexeme = from Between c.args.bytes.now c.loop-i.i in
    ap (λ (t : Token). lexeme t c.args.start ∷ (if goes_on t then more else [])) c.word_token.ensures.token
    ∙ ap (λ (g : Bool). lexeme (word_token w) c.args.start ∷ (if g then more else [])) (word_goes w)
    ∙ sym (word_is c.args.start w c.args.bytes.now c.loop-i.i past) ∙ c.loop-i.invariant.same
