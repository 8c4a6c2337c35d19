use Rattle.std.proofs.Common.{◌≡◌, ◌++◌, drop}
use Rattle.std.specs.Prelude.{string_bytes}
use Rattle.std.specs.List.{flat_map}
use Rattle.checkpoint_text.specs.Items.{place_items}
use Rattle.frozen_runs.proofs.CellLemmas.{fields_in}
use Rattle.checkpoint_text.specs.Writing.{words}
use Rattle.frozen_runs.proofs.cells.put_fields.Given as goal

abbrev pub invariant-loop-index : goal.invariant-loop-index
invariant-loop-index l = string_bytes l.text ++ words (flat_map (place_items) (drop l.index (fields_in l.fields l.places))) ≡ string_bytes l.initial.text ++ words (flat_map (place_items) (fields_in l.fields l.places))
