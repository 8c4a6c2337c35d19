use Rattle.core_sets.specs.Lanes.{KeepsLanes}
use Rattle.future_update.specs.Passings.{AreAhead, IsSound}
use Rattle.future_update.proofs.settling.settle.Given as goal

abbrev pub invariant-loop-passing : goal.invariant-loop-passing
invariant-loop-passing l = record {
  next : (goal.iterator-loop-passing).can_next l.passing-iterator;
  finite : (goal.iterator-loop-passing).is_finite l.passing-iterator;
  lanes : KeepsLanes l.fn.owed l.owed;
  sound : IsSound l.records l.owed.marks;
  ahead : AreAhead l.records l.owed.marks l.passing-iterator;
}
