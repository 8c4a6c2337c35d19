-- The walk keeps its brackets in order.
use Rattle.std.proofs.Common.{List, [], ◌∷◌, arith}
use Rattle.syntax_tokens.specs.declared.token.Token.{Token}
use Rattle.syntax_tokens.specs.declared.token.Token.TheVariants as tokens
use Rattle.syntax_tokens.specs.Levels.{BracketShape, WalkShape, walked, closed}
use Rattle.syntax_tokens.specs.Ordered.{Below, IsOrdered}

closed_ordered : (w : WalkShape) (bs : List BracketShape) → Below w.inner.before bs → IsOrdered w → IsOrdered (closed w bs)
closed_ordered w [] g h = h
closed_ordered w (b ∷ bs) g h = g

pub walked_ordered : (w : WalkShape) (t : Token) → IsOrdered w → IsOrdered (walked w t)
walked_ordered w tokens.Open h = (omega arith, h)
walked_ordered w tokens.SquareOpen h = (omega arith, h)
walked_ordered w tokens.BraceOpen h = (omega arith, h)
walked_ordered w tokens.Close h = closed_ordered w w.outer h.1 h
walked_ordered w tokens.SquareClose h = closed_ordered w w.outer h.1 h
walked_ordered w tokens.BraceClose h = closed_ordered w w.outer h.1 h
walked_ordered w tokens.Let h = (omega (arith, h.0), h.1)
walked_ordered w tokens.Assign h = (omega (arith, h.0), h.1)
walked_ordered w tokens.Dot h = (omega (arith, h.0), h.1)
walked_ordered w tokens.Plus h = (omega (arith, h.0), h.1)
walked_ordered w tokens.Minus h = (omega (arith, h.0), h.1)
walked_ordered w tokens.Star h = (omega (arith, h.0), h.1)
walked_ordered w tokens.Slash h = (omega (arith, h.0), h.1)
walked_ordered w tokens.Percent h = (omega (arith, h.0), h.1)
walked_ordered w tokens.Less h = (omega (arith, h.0), h.1)
walked_ordered w tokens.Same h = (omega (arith, h.0), h.1)
walked_ordered w tokens.Semicolon h = (omega arith, h.1)
walked_ordered w tokens.In h = (omega arith, h.1)
walked_ordered w tokens.Comma h = (omega arith, h.1)
walked_ordered w _ h = h
