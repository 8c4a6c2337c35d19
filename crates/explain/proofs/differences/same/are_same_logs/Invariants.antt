use Rattle.std.proofs.Common.{◌≡◌, map, take}
use Rattle.explain.specs.OrderKept.{log_entry}
use Rattle.explain.proofs.differences.same.are_same_logs.Given as goal

abbrev pub invariant-loop-i : goal.invariant-loop-i
invariant-loop-i l = map log_entry (take l.i l.lists) ≡ map log_entry (take l.i l.others)
