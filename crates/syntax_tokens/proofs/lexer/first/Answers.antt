use Rattle.std.proofs.Common.{sym, ◌∙◌}
use Rattle.syntax_tokens.proofs.lexer.first.Goals as goal

pub alone-requires : goal.alone-requires
alone-requires c = record {
  within = c.requires.within;
  alone = record {
    blank = c.requires.blank;
    digit = sym c.is_digit.ensures ∙ c.if-is_digit.false;
    letter = sym c.is_letter.ensures ∙ c.if-is_letter.false;
    slash = c.requires.slash;
    colon = c.if-b-eq58.false;
    equals = c.if-b-eq61.false;
    quote = c.if-b-eq34.false;
  };
}
