use Rattle.std.proofs.Common.{◌≡◌, drop, map}
use Rattle.asp_check.specs.NameFaults.{with_names}
use Rattle.asp_check.specs.Sets.{names_in}
use Rattle.proper_terms.specs.Fits.{are_new, place_label}
use Rattle.proper_terms.proofs.heads.note_places.Given as goal

abbrev pub invariant-loop-label : goal.invariant-loop-label
invariant-loop-label l =
    (with_names (map place_label (drop l.label-index l.fields)) (names_in l.labels) ≡ with_names (map place_label l.fields) (names_in l.initial.labels))
    × (are_new (names_in l.labels) (map place_label (drop l.label-index l.fields)) ≡ are_new (names_in l.initial.labels) (map place_label l.fields))
