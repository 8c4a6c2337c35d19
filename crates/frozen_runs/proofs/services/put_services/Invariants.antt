use Rattle.std.proofs.Common.{◌≡◌, ◌++◌, drop}
use Rattle.std.specs.Prelude.{string_bytes}
use Rattle.std.specs.List.{flat_map}
use Rattle.checkpoint_text.specs.Writing.{words}
use Rattle.frozen_runs.specs.Pieces.{suspended_items}
use Rattle.frozen_runs.proofs.services.put_services.Given as goal

abbrev pub invariant-loop-service : goal.invariant-loop-service
invariant-loop-service l = string_bytes l.text ++ words (flat_map suspended_items (drop l.service-index l.services)) ≡ string_bytes l.initial.text ++ words (flat_map suspended_items l.services)
