use Rattle.std.proofs.Common.{◌≡◌, ◌++◌, drop, map, take, true}
use Rattle.code_table.specs.Parts.{field_label, field_tree}
use Rattle.term_opening.specs.Opening.{done_all, emptied_all}
use Rattle.term_opening.proofs.opening.empty_fields.Given as goal

abbrev pub invariant-loop-field : goal.invariant-loop-field
invariant-loop-field l =
    (map field_tree (take l.field-index l.fields) ++ emptied_all l.open (map field_tree (drop l.field-index l.fields)) ≡ emptied_all true (map field_tree l.initial.fields))
    × (done_all l.open l.done.items (map field_tree (drop l.field-index l.fields)) ≡ done_all true l.initial.done.items (map field_tree l.initial.fields))
    × (map field_label l.fields ≡ map field_label l.initial.fields)
