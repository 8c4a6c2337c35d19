use Rattle.std.specs.Prelude.{take}
use Rattle.end_search.proofs.SearchLemmas.{Meeting}
use Rattle.end_search.proofs.search.meet_all.Given as goal

abbrev pub invariant-loop-offer : goal.invariant-loop-offer
invariant-loop-offer g l = Meeting (g.S.Ends.ended l.runs) g.S.Ends.begins l.most l.initial.ends.items l.ends.items (take l.offer-index l.offers)
