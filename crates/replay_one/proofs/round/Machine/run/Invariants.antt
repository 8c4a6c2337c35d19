use Rattle.std.proofs.Common.{◌≡◌, ◌++◌, List}
use Rattle.asp_model.specs.Term.{Tree}
use Rattle.asp_model.specs.Configuration.{Configuration}
use Rattle.asp_model.specs.Replay.{steps_from}
use Rattle.replay_parts.specs.Bounds.{count_within, lists_within}
use Rattle.replay_parts.specs.Notes.{NoteShape}
use Rattle.replay_one.specs.Told.{notes_by}
use Rattle.replay_one.specs.Round.{IsInOrder, IsRunAt}
use Rattle.replay_one.proofs.round.Machine.run.Given as goal

abbrev pub invariant-loop-left : goal.invariant-loop-left
invariant-loop-left g l = IsInOrder l.self × ((program : Tree) (c : Configuration) → IsRunAt l.bounds l.initial.self program c
    → (d : Configuration) × IsRunAt l.bounds l.self program d
    × (steps_from l.left (lists_within l.bounds) (count_within l.bounds) d ≡ steps_from l.total (lists_within l.bounds) (count_within l.bounds) c)
    × ((xs : List NoteShape) → g.N.Notes.tells l.initial.notes xs → (zs : List NoteShape) × g.N.Notes.tells l.notes (xs ++ zs) × (zs ++ notes_by l.bounds l.left d ≡ notes_by l.bounds l.total c)))

abbrev pub decreases-loop-left : goal.decreases-loop-left
decreases-loop-left g l = l.left
