use Rattle.std.proofs.Common.{◌≡◌, map, drop}
use Rattle.asp_model.specs.Replay.{log_in}
use Rattle.asp_model.specs.Shapes.{lists_shape}
use Rattle.outcome_search.proofs.LogLemmas.{row}
use Rattle.outcome_search.proofs.logs.log_of.Given as goal

abbrev pub invariant-loop-entry : goal.invariant-loop-entry
invariant-loop-entry l = log_in (lists_shape l.lists) l.name ≡ log_in (map row (drop l.entry-index l.lists.entries.items)) l.name
