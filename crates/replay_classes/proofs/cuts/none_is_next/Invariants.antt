use Rattle.std.proofs.Common.{take}
use Rattle.law_classes.specs.Families.{cut_logs}
use Rattle.class_search.specs.Logs.{logs_of}
use Rattle.end_search.specs.Found.{AreAll}
use Rattle.replay_classes.specs.Cuts.{IsNotNext}
use Rattle.replay_classes.proofs.cuts.none_is_next.Given as goal

abbrev pub invariant-loop-next : goal.invariant-loop-next
invariant-loop-next l = AreAll (IsNotNext (cut_logs (logs_of l.logs) l.cut.to l.cut.class l.place) (logs_of l.rows)) (take l.next-index l.nexts)
