-- What the readers of lines answer.
use Rattle.std.specs.Prelude.{ℕ, true, false, List, [], ◌∷◌, Option, Some, None}
use Rattle.asp_model.specs.declared.name.FutureName.{FutureName}
use Rattle.asp_model.specs.Names.{FutureShape, Name, Text, same_text}
use Rattle.asp_model.specs.Shapes.{future_shape}
use Rattle.checkpoint_text.specs.Items.{Items}

-- what stands behind the first of these, where that is this word
abbrev pub behind_word : Text → List Text → Option Items
behind_word word [] = None
behind_word word (w ∷ ws) = elim (same_text w word) [ true ↦ Some ws | false ↦ None ]

-- there are no items left
abbrev pub nothing_left : Items → Option (Unit {0})
nothing_left [] = Some tt
nothing_left (w ∷ ws) = None

-- a future with its home
abbrev pub home_shape : FutureName × Name → FutureShape × Name
home_shape h = (future_shape h.0, h.1)
