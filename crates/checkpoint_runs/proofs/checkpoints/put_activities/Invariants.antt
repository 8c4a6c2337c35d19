use Rattle.std.proofs.Common.{◌≡◌, ◌++◌, map}
use Rattle.asp_model.specs.Configuration.{Configuration}
use Rattle.asp_model.specs.Report.{text_of}
use Rattle.asp_core.specs.Frozen.{AreFrozenIn}
use Rattle.checkpoint_runs.specs.Saved.{activity_lines, text_in}
use Rattle.checkpoint_runs.proofs.checkpoints.put_activities.Given as goal

abbrev pub invariant-loop-name : goal.invariant-loop-name
invariant-loop-name l = (x : Configuration) → AreFrozenIn l.code x l.fn.activities.items
    → AreFrozenIn l.code x l.name-iterator.rest.items
    × (text_in l.pieces.items ++ text_of (activity_lines x (map (λ e. e.0) l.name-iterator.rest.items)) ≡ text_in l.initial.pieces.items ++ text_of (activity_lines x (map (λ e. e.0) l.fn.activities.items)))
