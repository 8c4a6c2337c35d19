-- What the functions on terms that are being read answer.
use Rattle.std.specs.Prelude.{◌≡◌, true, false, Option, Some, None, Result, Ok, Err}
use Rattle.syntax_terms.specs.declared.open.Access.{Access}
use Rattle.syntax_terms.specs.declared.stop.Stop.{Stop}
use Rattle.syntax_terms.specs.declared.stop.Stop.TheVariants as stop
use Rattle.syntax_grammar.specs.Nodes.{PartShape, is_get}
use Rattle.syntax_grammar.specs.States.{OpenShape, test_in, with_put}
use Rattle.syntax_terms.specs.Shapes.{access_shape}

-- a term taken apart, if it is a field access
abbrev pub IsAccess : Option Access → PartShape → Type 0
IsAccess (Some a) p = p ≡ access_shape a
IsAccess None p = is_get p.term ≡ false

-- what a `:=` behind an operand leaves of a sequence
abbrev pub Puts : Result (Unit {0}) Stop → PartShape → OpenShape → OpenShape → Type 0
Puts (Ok u) p s next = (is_get (test_in s p).term ≡ true) × (next ≡ with_put (test_in s p) s)
Puts (Err stop.NotAField) p s next = is_get (test_in s p).term ≡ false
Puts (Err stop.Unexpected) p s next = ⊥
Puts (Err stop.Memory) p s next = Unit {0}
