use Rattle.std.proofs.Common.{◌≡◌, map, take}
use Rattle.code_table.specs.Tables.{text_of}
use Rattle.term_opening.proofs.terms.copy_labels.Given as goal

abbrev pub invariant-loop-label : goal.invariant-loop-label
invariant-loop-label l = map text_of l.copies.items ≡ map text_of (take l.label-index l.labels)
