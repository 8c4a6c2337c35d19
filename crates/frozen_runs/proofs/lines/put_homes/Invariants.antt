use Rattle.std.proofs.Common.{◌≡◌, ◌++◌, drop}
use Rattle.std.specs.Prelude.{string_bytes}
use Rattle.std.specs.List.{flat_map}
use Rattle.checkpoint_text.specs.Writing.{words}
use Rattle.frozen_runs.specs.Pieces.{home_items}
use Rattle.frozen_runs.proofs.lines.put_homes.Given as goal

abbrev pub invariant-loop-future : goal.invariant-loop-future
invariant-loop-future l = string_bytes l.text ++ words (flat_map home_items (drop l.future-index l.homes)) ≡ string_bytes l.initial.text ++ words (flat_map home_items l.homes)
