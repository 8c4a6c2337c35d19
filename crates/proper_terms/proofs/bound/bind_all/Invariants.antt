use Rattle.std.proofs.Common.{◌≡◌, drop}
use Rattle.asp_check.specs.NameFaults.{with_names}
use Rattle.asp_check.specs.Sets.{names_in, without_names, texts}
use Rattle.proper_terms.proofs.bound.bind_all.Given as goal

abbrev pub invariant-loop-name : goal.invariant-loop-name
invariant-loop-name l = (with_names (drop l.name-index l.names) (names_in l.bound) ≡ with_names l.names (names_in l.initial.bound))
    × (without_names (texts l.added.items) (names_in l.bound) ≡ without_names (texts l.initial.added.items) (names_in l.initial.bound))
