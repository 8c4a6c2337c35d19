-- The text of tokens: one blank between two.
use Rattle.std.specs.Prelude.{ℕ, List, [], ◌∷◌, ◌++◌, map, codes}
use Rattle.std.specs.List.{join_with_byte}
use Rattle.std.specs.Fmt.{signed_decimal}
use Rattle.syntax_tokens.specs.declared.token.Token.{Token}
use Rattle.syntax_tokens.specs.declared.token.Token.TheVariants as tokens

-- the bytes of a token: decimal numbers without leading zeros, texts in quotes, and nothing of what is no token
abbrev pub token_text : Token → List ℕ
token_text (tokens.Number n) = signed_decimal n
token_text (tokens.Name x) = x
token_text (tokens.Text x) = 34 ∷ (x ++ 34 ∷ [])
token_text tokens.Open = codes "("
token_text tokens.Close = codes ")"
token_text tokens.SquareOpen = codes "["
token_text tokens.SquareClose = codes "]"
token_text tokens.BraceOpen = codes "{"
token_text tokens.BraceClose = codes "}"
token_text tokens.Comma = codes ","
token_text tokens.Semicolon = codes ";"
token_text tokens.Dot = codes "."
token_text tokens.Equals = codes "="
token_text tokens.Assign = codes ":="
token_text tokens.Plus = codes "+"
token_text tokens.Minus = codes "-"
token_text tokens.Star = codes "*"
token_text tokens.Slash = codes "/"
token_text tokens.Percent = codes "%"
token_text tokens.Less = codes "<"
token_text tokens.Same = codes "=="
token_text tokens.Let = codes "let"
token_text tokens.In = codes "in"
token_text tokens.If = codes "if"
token_text tokens.Else = codes "else"
token_text tokens.Repeat = codes "repeat"
token_text tokens.Clone = codes "clone"
token_text tokens.Active = codes "active"
token_text tokens.Serve = codes "serve"
token_text tokens.Print = codes "print"
token_text tokens.Echo = codes "echo"
token_text tokens.Group = codes "group"
token_text tokens.Scatter = codes "scatter"
token_text tokens.Size = codes "size"
token_text tokens.Member = codes "member"
token_text tokens.WaitAll = codes "waitall"
token_text tokens.Pending = codes "pending"
token_text tokens.End = []
token_text tokens.BadByte = []
token_text tokens.BadNumber = []

abbrev pub text_of : List Token → List ℕ
text_of ts = join_with_byte 32 (map token_text ts)
