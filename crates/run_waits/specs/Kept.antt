-- What the listener of a replay keeps.
use Rattle.std.specs.Prelude.{List}
use Rattle.replay_parts.specs.Notes.{NoteShape}
use Rattle.run_waits.specs.declared.kept.Kept.{Kept}
use Rattle.run_waits.specs.Targets.{Keeps}
use Rattle.run_waits.specs.Books.{KeepsBooks}

-- where each request went, and the book of each activity
abbrev pub KeepsAll : Kept → List NoteShape → Type 0
KeepsAll k xs = Keeps k.receipts xs × KeepsBooks k.books xs
