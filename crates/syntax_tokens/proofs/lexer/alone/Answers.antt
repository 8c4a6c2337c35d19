use Rattle.std.proofs.Common.{◌≡◌, sym, ap, ◌∙◌, get_or, ◌+◌, Bool, List, [], ◌∷◌, Some, if◌then◌else◌}
use Rattle.syntax_tokens.specs.Bytes.{sign_token}
use Rattle.syntax_tokens.specs.Tokens.{Lexeme, lexeme, Between}
use Rattle.syntax_tokens.specs.Cursors.{from}
use Rattle.syntax_tokens.proofs.Endings.{sign_goes_on}
use Rattle.syntax_tokens.proofs.Lexing.{sign_is, sign_bad}
use Rattle.syntax_tokens.proofs.lexer.alone.Goals as goal

pub returns-in-Some-clause-value : goal.returns-in-Some-clause-value
returns-in-Some-clause-value c =
    let e : Some c.in-Some.token ≡ sign_token (get_or c.args.bytes.now c.args.at 0) = sym c.in-Some.is ∙ c.sign.ensures in
    let more : List Lexeme = from Between c.args.bytes.now (c.args.at + 1) in
    ap (λ (g : Bool). lexeme c.in-Some.token c.args.at ∷ (if g then more else [])) (sign_goes_on (get_or c.args.bytes.now c.args.at 0) c.in-Some.token e)
    ∙ sym (sign_is c.args.bytes.now c.args.at c.in-Some.token c.requires.within c.requires.alone e)

pub returns-in-None-clause-value : goal.returns-in-None-clause-value
returns-in-None-clause-value c = sym (sign_bad c.args.bytes.now c.args.at c.requires.within c.requires.alone (sym c.in-None.is ∙ c.sign.ensures))
