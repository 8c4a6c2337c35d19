-- What the walk over the tokens keeps.
use Rattle.std.specs.Prelude.{◌≤◌, ◌+◌, ℕ, List, [], ◌∷◌}
use Rattle.syntax_tokens.specs.Levels.{BracketShape, WalkShape}

-- no bracket's sequences begin above the level, nor above the level before the next bracket
abbrev pub Below : ℕ → List BracketShape → Type 0
Below n [] = Unit {0}
Below n (b ∷ bs) = (b.base + b.lets ≤ n) × Below b.before bs

abbrev pub IsOrdered : WalkShape → Type 0
IsOrdered w = Below w.level (w.inner ∷ w.outer)
