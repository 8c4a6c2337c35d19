use Rattle.end_search.proofs.SearchLemmas.{Closing}
use Rattle.end_search.proofs.search.close_all.Given as goal

abbrev pub invariant-loop-done : goal.invariant-loop-done
invariant-loop-done g l = Closing (g.S.Ends.ended l.runs) g.S.Ends.begins (g.S.Ends.offered l.runs) l.most l.initial.ends.items l.ends.items l.done
