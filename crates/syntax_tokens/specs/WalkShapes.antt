-- What the functions on levels see of the walk: no vectors.
use Rattle.std.specs.Prelude.{List, map, reverse}
use Rattle.syntax_tokens.specs.declared.levels.Bracket.{Bracket}
use Rattle.syntax_tokens.specs.declared.levels.Walk.{Walk}
use Rattle.syntax_tokens.specs.Levels.{BracketShape, WalkShape}

abbrev pub bracket_shape : Bracket → BracketShape
bracket_shape b = record { base = b.base; lets = b.lets; before = b.before }

-- innermost first
abbrev pub bracket_stack : List Bracket → List BracketShape
bracket_stack bs = reverse (map bracket_shape bs)

abbrev pub walk_shape : Walk → WalkShape
walk_shape w = record { level = w.level; inner = bracket_shape w.inner; outer = bracket_stack w.outer.items }
