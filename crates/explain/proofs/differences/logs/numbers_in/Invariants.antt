use Rattle.std.proofs.Common.{map}
use Rattle.explain.specs.OrderKept.{log_entry}
use Rattle.explain.proofs.LogLemmas.{AreNoted}
use Rattle.explain.proofs.differences.logs.numbers_in.Given as goal

abbrev pub invariant-loop-i : goal.invariant-loop-i
invariant-loop-i l = AreNoted (map log_entry l.lists) l.numbers l.i
