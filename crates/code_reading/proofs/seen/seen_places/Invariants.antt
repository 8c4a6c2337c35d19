use Rattle.std.proofs.Common.{◌≡◌, map, take}
use Rattle.asp_model.specs.Term.{loc}
use Rattle.code_reading.specs.Decoded.{seen_tree}
use Rattle.code_reading.proofs.seen.seen_places.Given as goal

abbrev pub invariant-loop-place : goal.invariant-loop-place
invariant-loop-place l = map seen_tree l.seen.items ≡ map loc (take l.place-index l.places)
