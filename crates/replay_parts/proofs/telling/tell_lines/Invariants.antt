use Rattle.std.proofs.Common.{◌++◌, List, take}
use Rattle.replay_parts.specs.Notes.{NoteShape}
use Rattle.replay_parts.proofs.TellLemmas.{lines_told}
use Rattle.replay_parts.proofs.telling.tell_lines.Given as goal

-- the first lines were told
abbrev pub invariant-loop-line : goal.invariant-loop-line
invariant-loop-line g l = (xs : List NoteShape) → g.N.Notes.tells l.initial.notes xs → g.N.Notes.tells l.notes (xs ++ lines_told l.by l.count (take l.line-index l.lines))
