use Rattle.std.proofs.Common.{◌≡◌, map, drop}
use Rattle.asp_model.specs.Names.{Text}
use Rattle.asp_check.specs.ArityFaults.{first_arity}
use Rattle.asp_check.specs.Sets.{arity_in, known_or}
use Rattle.asp_check.specs.Walk.{arity_of}
use Rattle.asp_check.proofs.arity.first_arities.Given as goal

abbrev pub invariant-loop-place : goal.invariant-loop-place
invariant-loop-place l = (q : Text) → known_or (arity_in l.arities q) (first_arity q (map arity_of (drop l.place-index l.places))) ≡ first_arity q (map arity_of l.places)
