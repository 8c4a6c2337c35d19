-- What a byte is to the lexer, and what a word is.
use Rattle.std.specs.Prelude.{ℕ, Bool, ◌||◌, ◌==◌, nat_eq, if◌then◌else◌, List, Option, Some, None, codes}
use Rattle.std.specs.Cmp.Lexicographic.{pointwise}
pub use Rattle.asp_model.specs.Readable.{is_letter, is_digit, is_inner}
use Rattle.syntax_tokens.specs.declared.token.Token.{Token}
use Rattle.syntax_tokens.specs.declared.token.Token.TheVariants.{Name, Open, Close, SquareOpen, SquareClose, BraceOpen, BraceClose, Comma, Semicolon, Dot, Plus, Minus, Star, Percent, Less, Let, In, If, Else, Repeat, Clone, Active, Serve, Print, Echo, Group, Scatter, Size, Member, WaitAll, Pending}

abbrev pub is_blank : ℕ → Bool
is_blank b = b == 32 || b == 9 || b == 13 || b == 10

-- the token that a byte is alone, whatever follows
abbrev pub sign_token : ℕ → Option Token
sign_token b =
    if b == 40 then Some Open
    else if b == 41 then Some Close
    else if b == 91 then Some SquareOpen
    else if b == 93 then Some SquareClose
    else if b == 123 then Some BraceOpen
    else if b == 125 then Some BraceClose
    else if b == 44 then Some Comma
    else if b == 59 then Some Semicolon
    else if b == 46 then Some Dot
    else if b == 43 then Some Plus
    else if b == 45 then Some Minus
    else if b == 42 then Some Star
    else if b == 37 then Some Percent
    else if b == 60 then Some Less
    else None

abbrev pub is_word : List ℕ → List ℕ → Bool
is_word word known = pointwise nat_eq word known

-- the token of a reserved word
abbrev pub reserved_token : List ℕ → Option Token
reserved_token word =
    if is_word word (codes "let") then Some Let
    else if is_word word (codes "in") then Some In
    else if is_word word (codes "if") then Some If
    else if is_word word (codes "else") then Some Else
    else if is_word word (codes "repeat") then Some Repeat
    else if is_word word (codes "clone") then Some Clone
    else if is_word word (codes "active") then Some Active
    else if is_word word (codes "serve") then Some Serve
    else if is_word word (codes "print") then Some Print
    else if is_word word (codes "echo") then Some Echo
    else if is_word word (codes "group") then Some Group
    else if is_word word (codes "scatter") then Some Scatter
    else if is_word word (codes "size") then Some Size
    else if is_word word (codes "member") then Some Member
    else if is_word word (codes "waitall") then Some WaitAll
    else if is_word word (codes "pending") then Some Pending
    else None

abbrev pub named_token : List ℕ → Option Token → Token
named_token word (Some token) = token
named_token word None = Name word

-- a word is a name, unless it is reserved
unfoldable pub word_token : List ℕ → Token
word_token word = named_token word (reserved_token word)
