use Rattle.std.proofs.Common.{◌≡◌, map, drop}
use Rattle.asp_check.specs.Least.{least_of}
use Rattle.asp_check.specs.NameFaults.{method_faults}
use Rattle.asp_check.specs.Sets.{names_in}
use Rattle.asp_check.specs.Walk.{head_of}
use Rattle.asp_check.proofs.heads.note_methods.Given as goal

abbrev pub invariant-loop-method : goal.invariant-loop-method
invariant-loop-method l = least_of l.least (method_faults l.places.node (names_in l.labels) (map head_of (drop l.method-index l.methods)) l.places.left.now)
    ≡ least_of l.initial.least (method_faults l.initial.places.node (names_in l.initial.labels) (map head_of l.methods) l.initial.places.left.now)
