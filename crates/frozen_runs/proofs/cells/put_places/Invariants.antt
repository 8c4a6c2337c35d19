use Rattle.std.proofs.Common.{◌≡◌, ◌++◌, drop}
use Rattle.std.specs.Prelude.{string_bytes}
use Rattle.std.specs.List.{flat_map}
use Rattle.checkpoint_text.specs.Items.{number_items}
use Rattle.checkpoint_text.specs.Writing.{words}
use Rattle.frozen_runs.proofs.cells.put_places.Given as goal

abbrev pub invariant-loop-place : goal.invariant-loop-place
invariant-loop-place l = string_bytes l.text ++ words (flat_map (number_items) (drop l.place-index (l.places))) ≡ string_bytes l.initial.text ++ words (flat_map (number_items) (l.places))
