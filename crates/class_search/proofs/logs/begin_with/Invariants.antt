use Rattle.std.proofs.Common.{take}
use Rattle.end_search.specs.Found.{AreAll}
use Rattle.class_search.specs.Logs.{logs_of}
use Rattle.class_search.proofs.LogLemmas.{BeginsAt}
use Rattle.class_search.proofs.logs.begin_with.Given as goal

abbrev pub invariant-loop-log : goal.invariant-loop-log
invariant-loop-log l = AreAll (BeginsAt (logs_of l.others) (logs_of l.logs)) (take l.log-index l.others)
