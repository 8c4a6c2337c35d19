use Rattle.std.proofs.Common.{◌≡◌, [], drop, map, take}
use Rattle.asp_model.specs.Shapes.{tree_of}
use Rattle.code_compiler.specs.Slots.{bound_in}
use Rattle.code_compiler.specs.Parts.{bodies_below, fields_below, terms_below}
use Rattle.code_table.specs.Parts.{body_tree, field_label, field_tree, method_head}
use Rattle.term_opening.specs.Naming.{noted_below}
use Rattle.term_opening.specs.Named.{named_body, named_field, named_term}
use Rattle.term_opening.proofs.terms.+naming.Given as goal

abbrev pub invariant-name_all-loop-term : goal.invariant-name_all-loop-term
invariant-name_all-loop-term l =
    (noted_below l.naming [] (terms_below (drop l.term-index l.terms)) ≡ noted_below l.initial.naming [] (terms_below l.terms))
    × (map tree_of l.all.items ≡ map named_term (take l.term-index l.terms))

abbrev pub invariant-name_fields-loop-field : goal.invariant-name_fields-loop-field
invariant-name_fields-loop-field l =
    (noted_below l.naming [] (fields_below (drop l.field-index l.fields)) ≡ noted_below l.initial.naming [] (fields_below l.fields))
    × (map field_tree l.all.items ≡ map named_field (take l.field-index l.fields))
    × (map field_label l.all.items ≡ map field_label (take l.field-index l.fields))

abbrev pub invariant-name_methods-loop-method : goal.invariant-name_methods-loop-method
invariant-name_methods-loop-method l =
    (noted_below l.naming (map bound_in (drop l.method-index l.methods)) (bodies_below (drop l.method-index l.methods)) ≡ noted_below l.initial.naming (map bound_in l.methods) (bodies_below l.methods))
    × (map body_tree l.all.items ≡ map named_body (take l.method-index l.methods))
    × (map method_head l.all.items ≡ map method_head (take l.method-index l.methods))
