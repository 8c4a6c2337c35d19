use Rattle.std.proofs.Common.{◌≡◌, ◌++◌, drop}
use Rattle.std.specs.Prelude.{string_bytes}
use Rattle.std.specs.List.{flat_map}
use Rattle.checkpoint_text.specs.Writing.{words}
use Rattle.frozen_runs.specs.Activities.{request_piece}
use Rattle.frozen_runs.proofs.activities.put_requests.Given as goal

abbrev pub invariant-loop-request : goal.invariant-loop-request
invariant-loop-request l = string_bytes l.text ++ words (flat_map request_piece (drop l.request-index l.requests)) ≡ string_bytes l.initial.text ++ words (flat_map request_piece l.requests)
