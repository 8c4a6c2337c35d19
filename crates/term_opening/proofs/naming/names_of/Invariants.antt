use Rattle.std.proofs.Common.{◌≡◌, map, take}
use Rattle.std.specs.Fmt.{decimal}
use Rattle.term_opening.proofs.naming.names_of.Given as goal

abbrev pub invariant-loop-place : goal.invariant-loop-place
invariant-loop-place l = l.names.items ≡ map decimal (take l.place-index l.places)
