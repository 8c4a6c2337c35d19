-- The level, token by token.
use Rattle.std.specs.Prelude.{ℕ, ◌+◌, List, [], ◌∷◌}
use Rattle.syntax_tokens.specs.declared.token.Token.{Token}
use Rattle.syntax_tokens.specs.declared.token.Token.TheVariants.{Open, Close, SquareOpen, SquareClose, BraceOpen, BraceClose, Comma, Semicolon, Dot, Assign, Plus, Minus, Star, Slash, Percent, Less, Same, Let, In}
use Rattle.syntax_tokens.specs.Tokens.{Lexeme}

-- an open bracket: the level that it reached, the `let`s directly in it since then or since the last comma
-- directly in it, and the level just before it
pub record BracketShape : Type 0 where
  pub base : ℕ
  pub lets : ℕ
  pub before : ℕ

-- the level, the innermost open bracket, or what stands outside all, and the others, innermost first
pub record WalkShape : Type 0 where
  pub level : ℕ
  pub inner : BracketShape
  pub outer : List BracketShape

abbrev pub opened : WalkShape → WalkShape
opened w = record { level = w.level + 1; inner = record { base = w.level + 1; lets = 0; before = w.level }; outer = w.inner ∷ w.outer }

-- a closing bracket with no opening one leaves the level
abbrev pub closed : WalkShape → List BracketShape → WalkShape
closed w [] = w
closed w (b ∷ bs) = record { level = w.inner.before; inner = b; outer = bs }

abbrev pub higher : WalkShape → WalkShape
higher w = record w { level = w.level + 1 }

abbrev pub with_let : WalkShape → WalkShape
with_let w = record { level = w.level + 1; inner = record { base = w.inner.base; lets = w.inner.lets + 1; before = w.inner.before }; outer = w.outer }

abbrev pub set_back : WalkShape → WalkShape
set_back w = record w { level = w.inner.base + w.inner.lets }

abbrev pub without_lets : WalkShape → WalkShape
without_lets w = record { level = w.inner.base; inner = record { base = w.inner.base; lets = 0; before = w.inner.before }; outer = w.outer }

-- one token on
abbrev pub walked : WalkShape → Token → WalkShape
walked w Open = opened w
walked w SquareOpen = opened w
walked w BraceOpen = opened w
walked w Close = closed w w.outer
walked w SquareClose = closed w w.outer
walked w BraceClose = closed w w.outer
walked w Let = with_let w
walked w Assign = higher w
walked w Dot = higher w
walked w Plus = higher w
walked w Minus = higher w
walked w Star = higher w
walked w Slash = higher w
walked w Percent = higher w
walked w Less = higher w
walked w Same = higher w
walked w Semicolon = set_back w
walked w In = set_back w
walked w Comma = without_lets w
walked w _ = w

abbrev pub walk : WalkShape → List Lexeme → WalkShape
walk w [] = w
walk w (l ∷ ls) = walk (walked w l.token) ls

abbrev pub flat : WalkShape
flat = record { level = 0; inner = record { base = 0; lets = 0; before = 0 }; outer = [] }

abbrev pub level_after : List Lexeme → ℕ
level_after ls = (walk flat ls).level
