use Rattle.class_search.specs.Found.{HasOffersTo, end_in}
use Rattle.class_search.proofs.offers.offers_in.Given as goal

abbrev pub invariant-loop-place : goal.invariant-loop-place
invariant-loop-place g l = HasOffersTo (g.C.Cuts.classes l.cuts) (g.C.Cuts.program l.cuts) (end_in (g.C.Cuts.program l.cuts) l.end) l.place l.all.items l.log
