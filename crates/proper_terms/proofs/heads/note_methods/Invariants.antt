use Rattle.std.proofs.Common.{◌≡◌, drop, map}
use Rattle.asp_check.specs.Sets.{names_in}
use Rattle.proper_terms.specs.Fits.{are_new, method_label}
use Rattle.proper_terms.proofs.heads.note_methods.Given as goal

abbrev pub invariant-loop-method : goal.invariant-loop-method
invariant-loop-method l = are_new (names_in l.labels) (map method_label (drop l.method-index l.methods)) ≡ are_new (names_in l.initial.labels) (map method_label l.methods)
