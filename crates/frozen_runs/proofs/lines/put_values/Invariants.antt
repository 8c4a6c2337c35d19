use Rattle.std.proofs.Common.{◌≡◌, ◌++◌}
use Rattle.std.specs.Prelude.{string_bytes}
use Rattle.std.specs.List.{flat_map}
use Rattle.checkpoint_text.specs.Writing.{words}
use Rattle.frozen_runs.specs.Pieces.{value_items}
use Rattle.frozen_runs.proofs.lines.put_values.Given as goal

abbrev pub invariant-loop-future : goal.invariant-loop-future
invariant-loop-future l = string_bytes l.text ++ words (flat_map value_items l.future-iterator) ≡ string_bytes l.initial.text ++ words (flat_map value_items l.initial.future-iterator)
