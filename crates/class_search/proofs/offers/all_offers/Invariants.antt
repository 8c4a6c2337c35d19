use Rattle.std.proofs.Common.{take}
use Rattle.end_search.specs.Found.{AreAll}
use Rattle.class_search.specs.Found.{HasOffersIn, end_in}
use Rattle.class_search.proofs.offers.all_offers.Given as goal

abbrev pub invariant-loop-log : goal.invariant-loop-log
invariant-loop-log g l = AreAll (HasOffersIn (g.C.Cuts.classes l.cuts) (g.C.Cuts.program l.cuts) (end_in (g.C.Cuts.program l.cuts) l.end) l.all.items) (take l.log-index l.end.logs.items)
