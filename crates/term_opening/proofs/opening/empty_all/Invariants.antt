use Rattle.std.proofs.Common.{◌≡◌, ◌++◌, drop, map, take}
use Rattle.asp_model.specs.Shapes.{tree_of}
use Rattle.term_opening.specs.Opening.{done_all, emptied_all}
use Rattle.term_opening.proofs.opening.empty_all.Given as goal

abbrev pub invariant-loop-term : goal.invariant-loop-term
invariant-loop-term l =
    (map tree_of (take l.term-index l.terms) ++ emptied_all l.open (map tree_of (drop l.term-index l.terms)) ≡ emptied_all l.on (map tree_of l.initial.terms))
    × (done_all l.open l.done.items (map tree_of (drop l.term-index l.terms)) ≡ done_all l.on l.initial.done.items (map tree_of l.initial.terms))
