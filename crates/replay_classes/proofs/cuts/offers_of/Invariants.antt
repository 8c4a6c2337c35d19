use Rattle.std.proofs.Common.{Some, take}
use Rattle.asp_model.specs.Names.{Name}
use Rattle.asp_model.specs.Configuration.{From}
use Rattle.law_classes.specs.Runs.{with_entry}
use Rattle.class_search.specs.Found.{HasLogs}
use Rattle.replay_classes.specs.Sendings.{IsAmong, logs_from}
use Rattle.replay_classes.proofs.cuts.offers_of.Given as goal

abbrev pub invariant-loop-next : goal.invariant-loop-next
invariant-loop-next l = (next : Name) → IsAmong (take l.next-index l.nexts) (Some (l.cut.to, l.cut.class, From next))
    → HasLogs l.offers.items (with_entry (Some (l.cut.to, l.cut.class, From next)) (logs_from l.sendings))
