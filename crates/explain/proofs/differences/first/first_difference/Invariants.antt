use Rattle.std.proofs.Common.{map}
use Rattle.explain.specs.Differences.{AgreeBefore}
use Rattle.explain.specs.OrderKept.{entry_shape, log_entry}
use Rattle.explain.proofs.FirstLemmas.{AreMet}
use Rattle.explain.proofs.differences.first.first_difference.Given as goal

abbrev pub invariant-loop-index : goal.invariant-loop-index
invariant-loop-index l = AreMet l.places (map entry_shape l.order) l.index
    × AgreeBefore (map log_entry l.others) (map entry_shape l.order) l.index
