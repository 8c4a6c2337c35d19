use Rattle.std.proofs.Common.{◌≡◌, ◌++◌, drop}
use Rattle.std.specs.Prelude.{string_bytes}
use Rattle.std.specs.List.{flat_map}
use Rattle.checkpoint_text.specs.Writing.{words}
use Rattle.frozen_runs.specs.Activities.{reception_piece}
use Rattle.frozen_runs.proofs.activities.put_log.Given as goal

abbrev pub invariant-loop-reception : goal.invariant-loop-reception
invariant-loop-reception l = string_bytes l.text ++ words (flat_map reception_piece (drop l.reception-index l.log)) ≡ string_bytes l.initial.text ++ words (flat_map reception_piece l.log)
