use Rattle.std.proofs.Common.{◌≡◌, ◌++◌, drop}
use Rattle.std.specs.Prelude.{string_bytes}
use Rattle.std.specs.List.{flat_map}
use Rattle.code_table.specs.Shapes.{cell_of}
use Rattle.checkpoint_text.specs.Items.{cell_items}
use Rattle.checkpoint_text.specs.Writing.{words}
use Rattle.frozen_runs.proofs.activities.put_store.Given as goal

abbrev pub invariant-loop-place : goal.invariant-loop-place
invariant-loop-place l = string_bytes l.text ++ words (flat_map (λ c. cell_items (cell_of l.code c)) (drop l.place l.store.cells)) ≡ string_bytes l.initial.text ++ words (flat_map (λ c. cell_items (cell_of l.code c)) l.store.cells)
