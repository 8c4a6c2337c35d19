-- The tokens of a text, from left to right, each as long as it can be.
use Rattle.std.specs.Prelude.{ℕ, ◌+◌, ◌-◌, ◌*◌, ◌^◌, pos, ◌==◌, nat_lt, if◌then◌else◌, List, [], ◌∷◌, ◌++◌, map, Option, Some, None}
use Rattle.syntax_tokens.specs.declared.token.Token.{Token}
use Rattle.syntax_tokens.specs.declared.token.Token.TheVariants.{Number, Text, Equals, Assign, Slash, Same, End, BadByte, BadNumber}
use Rattle.asp_model.specs.WellFormed.{is_printable}
use Rattle.syntax_tokens.specs.Bytes.{is_digit, is_letter, is_blank, is_inner, sign_token, word_token}

-- a token and its place
pub record Lexeme : Type 0 where
  pub token : Token
  pub at : ℕ

abbrev pub lexeme : Token → ℕ → Lexeme
lexeme token at = record { token = token; at = at }

-- the tokens without their places
abbrev pub tokens_in : List Lexeme → List Token
tokens_in ls = map (λ l. l.token) ls

-- what was begun
pub data Scan : Type 0 where
  Between : Scan
  InComment : Scan
  AfterSlash : (start : ℕ) → Scan
  AfterColon : (start : ℕ) → Scan
  AfterEquals : (start : ℕ) → Scan
  InNumber : (start n : ℕ) → Scan
  InWord : (start : ℕ) (word : List ℕ) → Scan
  InText : (start : ℕ) (text : List ℕ) → Scan

-- a byte gives tokens, and then goes on with what is begun, or shows that no token stands at a place
pub data Move : Type 0 where
  Goes : (tokens : List Lexeme) (scan : Scan) → Move
  NoToken : (tokens : List Lexeme) (at : ℕ) → Move
  TooLarge : (tokens : List Lexeme) (at : ℕ) → Move

-- one more digit of a number
abbrev pub digit : ℕ → ℕ → ℕ → Move
digit start n b = if nat_lt (n * 10 + (b - 48)) (2 ^ 63) then Goes [] (InNumber start (n * 10 + (b - 48))) else TooLarge [] start

abbrev pub sign_move : ℕ → Option Token → Move
sign_move at (Some token) = Goes (lexeme token at ∷ []) Between
sign_move at None = NoToken [] at

-- a byte between tokens
unfoldable pub between : ℕ → ℕ → Move
between at b =
    if is_blank b then Goes [] Between
    else if is_digit b then Goes [] (InNumber at (b - 48))
    else if is_letter b then Goes [] (InWord at (b ∷ []))
    else if b == 47 then Goes [] (AfterSlash at)
    else if b == 58 then Goes [] (AfterColon at)
    else if b == 61 then Goes [] (AfterEquals at)
    else if b == 34 then Goes [] (InText at [])
    else sign_move at (sign_token b)

-- a token that is over, and then what the byte behind it gives
abbrev pub with_token : Lexeme → Move → Move
with_token t (Goes ts scan) = Goes (t ∷ ts) scan
with_token t (NoToken ts at) = NoToken (t ∷ ts) at
with_token t (TooLarge ts at) = TooLarge (t ∷ ts) at

-- one byte
abbrev pub move : Scan → ℕ → ℕ → Move
move Between at b = between at b
move InComment at b = Goes [] (if b == 10 then Between else InComment)
move (AfterSlash start) at b = if b == 47 then Goes [] InComment else with_token (lexeme Slash start) (between at b)
move (AfterColon start) at b = if b == 61 then Goes (lexeme Assign start ∷ []) Between else NoToken [] start
move (AfterEquals start) at b = if b == 61 then Goes (lexeme Same start ∷ []) Between else with_token (lexeme Equals start) (between at b)
move (InNumber start n) at b = if is_digit b then digit start n b else with_token (lexeme (Number (pos n)) start) (between at b)
move (InWord start word) at b =
    if is_inner b then Goes [] (InWord start (word ++ b ∷ [])) else with_token (lexeme (word_token word) start) (between at b)
move (InText start text) at b =
    if b == 34 then Goes (lexeme (Text text) start ∷ []) Between
    else if is_printable b then Goes [] (InText start (text ++ b ∷ []))
    else NoToken [] at

-- the end of the text
abbrev pub at_end : Scan → ℕ → List Lexeme
at_end Between at = lexeme End at ∷ []
at_end InComment at = lexeme End at ∷ []
at_end (AfterSlash start) at = lexeme Slash start ∷ lexeme End at ∷ []
at_end (AfterColon start) at = lexeme BadByte start ∷ []
at_end (AfterEquals start) at = lexeme Equals start ∷ lexeme End at ∷ []
at_end (InNumber start n) at = lexeme (Number (pos n)) start ∷ lexeme End at ∷ []
at_end (InWord start word) at = lexeme (word_token word) start ∷ lexeme End at ∷ []
at_end (InText start text) at = lexeme BadByte at ∷ []

abbrev pub after_move : Move → (Scan → List Lexeme) → List Lexeme
after_move (Goes ts scan) go = ts ++ go scan
after_move (NoToken ts at) go = ts ++ lexeme BadByte at ∷ []
after_move (TooLarge ts at) go = ts ++ lexeme BadNumber at ∷ []

-- the tokens from a place on, up to the end or to the first place at which none stands
unfoldable pub lex : Scan → ℕ → List ℕ → List Lexeme
lex scan at [] = at_end scan at
lex scan at (b ∷ bs) = after_move (move scan at b) (λ next. lex next (at + 1) bs)

abbrev pub lexemes_of : List ℕ → List Lexeme
lexemes_of bytes = lex Between 0 bytes
