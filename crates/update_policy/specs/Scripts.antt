-- What a script answers: the answers of a list, in order.
use Rattle.std.specs.Prelude.{ℕ, List, Option, Some, None, slice_get}
use Rattle.asp_model.specs.declared.journal.Choice.{Choice}
use Rattle.asp_model.specs.History.{ChoiceShape, Leave}
use Rattle.asp_model.specs.Shapes.{choice_shape}

abbrev pub or_leave : Option Choice → ChoiceShape
or_leave None = Leave
or_leave (Some c) = choice_shape c

-- the answer at a place; past the end Leave
abbrev pub answer_at : List Choice → ℕ → ChoiceShape
answer_at answers place = or_leave (slice_get answers place)
