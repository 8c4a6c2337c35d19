use Rattle.std.proofs.Common.{◌≡◌, map, take}
use Rattle.asp_model.specs.Term.{loc}
use Rattle.asp_model.specs.Shapes.{tree_of}
use Rattle.code_reading.proofs.terms.locations.Given as goal

abbrev pub invariant-loop-place : goal.invariant-loop-place
invariant-loop-place l = map tree_of l.terms.items ≡ map loc (take l.place-index l.places)
