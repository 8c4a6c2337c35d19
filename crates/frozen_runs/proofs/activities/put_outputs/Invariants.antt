use Rattle.std.proofs.Common.{◌≡◌, ◌++◌, drop}
use Rattle.std.specs.Prelude.{string_bytes}
use Rattle.std.specs.List.{flat_map}
use Rattle.checkpoint_text.specs.Writing.{words}
use Rattle.frozen_runs.specs.Activities.{line_piece}
use Rattle.frozen_runs.proofs.activities.put_outputs.Given as goal

abbrev pub invariant-loop-line : goal.invariant-loop-line
invariant-loop-line l = string_bytes l.text ++ words (flat_map line_piece (drop l.line-index l.lines)) ≡ string_bytes l.initial.text ++ words (flat_map line_piece l.lines)
