use Rattle.std.proofs.Common.{◌≡◌, map, take}
use Rattle.code_table.specs.Tables.{text_of}
use Rattle.code_table.specs.Parts.{field_label}
use Rattle.code_compiler.proofs.nodes.field_labels.Given as goal

abbrev pub invariant-loop-label : goal.invariant-loop-label
invariant-loop-label l = map text_of l.labels.items ≡ map field_label (take l.label-index l.fields)
