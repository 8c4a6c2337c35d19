-- What a holder of a future has seen of its value.
use Rattle.std.specs.Prelude.{◌≡◌, Option}
use Rattle.once_cell.specs.Once.{cell_name}
use Rattle.code_table.specs.declared.future.Future.{Future}
use Rattle.code_table.specs.declared.future.Sighting.{Sighting}
use Rattle.code_table.specs.Answers.{AnswerView}

-- what was seen is of this future
abbrev pub IsOf : Future → Sighting → Type 0
IsOf f s = s.note.cell ≡ cell_name f.answer

-- the value, if one was seen
abbrev pub seen_by : Sighting → Option AnswerView
seen_by s = s.note.known
