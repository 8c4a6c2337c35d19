use Rattle.std.proofs.Common.{map, take}
use Rattle.asp_model.specs.Shapes.{lists_shape}
use Rattle.outcome_search.proofs.LogLemmas.{row, HaveBegun}
use Rattle.outcome_search.proofs.logs.begin_with.Given as goal

abbrev pub invariant-loop-entry : goal.invariant-loop-entry
invariant-loop-entry l = HaveBegun (lists_shape l.lists) (lists_shape l.others) (map row (take l.entry-index l.others.entries.items))
