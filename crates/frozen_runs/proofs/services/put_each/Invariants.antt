use Rattle.std.proofs.Common.{◌≡◌, ◌++◌, drop}
use Rattle.std.specs.Prelude.{string_bytes}
use Rattle.std.specs.List.{flat_map}
use Rattle.checkpoint_text.specs.Writing.{tree_items, words}
use Rattle.frozen_runs.proofs.services.put_each.Given as goal

abbrev pub invariant-loop-term : goal.invariant-loop-term
invariant-loop-term l = string_bytes l.text ++ words (flat_map tree_items (drop l.term-index l.terms)) ≡ string_bytes l.initial.text ++ words (flat_map tree_items l.terms)
