use Rattle.std.proofs.Common.{◌≡◌, drop, map}
use Rattle.std.specs.List.{list_all}
use Rattle.asp_model.specs.Shapes.{tree_of}
use Rattle.proper_terms.specs.Fits.{fits}
use Rattle.proper_terms.proofs.whole.check_contexts.Given as goal

abbrev pub invariant-loop-term : goal.invariant-loop-term
invariant-loop-term l = list_all (fits l.size 1) (map tree_of (drop l.term-index l.terms)) ≡ list_all (fits l.size 1) (map tree_of l.terms)
