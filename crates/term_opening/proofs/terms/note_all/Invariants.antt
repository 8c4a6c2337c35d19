use Rattle.std.proofs.Common.{◌≡◌, drop}
use Rattle.term_opening.specs.Naming.{with_names}
use Rattle.term_opening.proofs.terms.note_all.Given as goal

abbrev pub invariant-loop-name : goal.invariant-loop-name
invariant-loop-name l = with_names (drop l.name-index l.names) l.naming ≡ with_names l.names l.initial.naming
