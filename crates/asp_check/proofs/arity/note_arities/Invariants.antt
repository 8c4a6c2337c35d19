use Rattle.std.proofs.Common.{◌≡◌, map, drop}
use Rattle.asp_check.specs.Least.{least_of}
use Rattle.asp_check.specs.ArityFaults.{arity_faults}
use Rattle.asp_check.specs.Walk.{arity_of}
use Rattle.asp_check.proofs.arity.note_arities.Given as goal

abbrev pub invariant-loop-place : goal.invariant-loop-place
invariant-loop-place l = least_of l.least (arity_faults (map arity_of l.places) (map arity_of (drop l.place-index l.places))) ≡ least_of l.initial.least (arity_faults (map arity_of l.places) (map arity_of l.places))
