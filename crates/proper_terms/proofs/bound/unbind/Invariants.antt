use Rattle.std.proofs.Common.{◌≡◌, drop}
use Rattle.asp_check.specs.Sets.{names_in, without_names, texts}
use Rattle.proper_terms.proofs.bound.unbind.Given as goal

abbrev pub invariant-loop-name : goal.invariant-loop-name
invariant-loop-name l = without_names (texts (drop l.name-index l.added)) (names_in l.bound) ≡ without_names (texts l.added) (names_in l.initial.bound)
