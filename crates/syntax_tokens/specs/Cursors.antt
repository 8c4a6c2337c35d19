-- What the lexer's functions speak of.
use Rattle.std.specs.Prelude.{◌≡◌, ◌≢◌, ℕ, Bool, true, false, List, [], ◌∷◌, drop, if◌then◌else◌}
use Rattle.syntax_tokens.specs.declared.token.Token.{Token}
use Rattle.syntax_tokens.specs.declared.token.Token.TheVariants.{End, BadByte, BadNumber}
use Rattle.syntax_tokens.specs.declared.token.Cursor.{Cursor}
use Rattle.syntax_tokens.specs.Bytes.{is_blank, is_digit, is_letter}
use Rattle.syntax_tokens.specs.Tokens.{Lexeme, lexeme, lex, Scan, Between}

-- more tokens come
abbrev pub goes_on : Token → Bool
goes_on End = false
goes_on BadByte = false
goes_on BadNumber = false
goes_on token = true

-- the lexemes from a place of a text on
abbrev pub from : Scan → List ℕ → ℕ → List Lexeme
from scan bytes i = lex scan i (drop i bytes)

abbrev pub lexeme_of : Cursor → Lexeme
lexeme_of c = lexeme c.token c.at

-- the lexeme of a cursor, and those behind it
abbrev pub lexemes : List ℕ → Cursor → List Lexeme
lexemes bytes c = lexeme_of c ∷ (if goes_on c.token then from Between bytes c.after else [])

-- a byte that is no blank, and begins nothing longer than itself
pub record IsAlone (b : ℕ) : Type 0 where
  pub blank : is_blank b ≡ false
  pub digit : is_digit b ≡ false
  pub letter : is_letter b ≡ false
  pub slash : b ≢ 47
  pub colon : b ≢ 58
  pub equals : b ≢ 61
  pub quote : b ≢ 34
