use Rattle.std.proofs.Common.{List}
use Rattle.asp_model.specs.Term.{Tree}
use Rattle.asp_model.specs.Configuration.{Configuration}
use Rattle.replay_parts.specs.Notes.{NoteShape}
use Rattle.replay_one.specs.Round.{IsInOrder, IsRunAt}
use Rattle.replay_parts.specs.Ready.{size}
use Rattle.replay_one.proofs.round.Machine.step.Given as goal

abbrev pub invariant-loop-taken : goal.invariant-loop-taken
invariant-loop-taken g l = ((program : Tree) (c : Configuration) → IsRunAt l.bounds l.initial.self program c → IsRunAt l.bounds l.self program c)
    × ((program : Tree) (c : Configuration) (xs : List NoteShape) → IsRunAt l.bounds l.initial.self program c → g.N.Notes.tells l.initial.notes xs → g.N.Notes.tells l.notes xs)
    × IsInOrder l.self

abbrev pub decreases-loop-taken : goal.decreases-loop-taken
decreases-loop-taken g l = size l.self.schedule.ready
