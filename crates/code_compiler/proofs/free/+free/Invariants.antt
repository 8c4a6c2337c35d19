use Rattle.std.proofs.Common.{◌≡◌, [], drop, map}
use Rattle.code_compiler.specs.Slots.{bound_in}
use Rattle.code_compiler.specs.Free.{free_below}
use Rattle.code_compiler.specs.Parts.{bodies_below, fields_below, terms_below}
use Rattle.code_compiler.proofs.free.+free.Given as goal

abbrev pub invariant-note_all-loop-term : goal.invariant-note_all-loop-term
invariant-note_all-loop-term l =
    (l.bound.items ≡ l.initial.bound.items)
    × (free_below l.initial.bound.items l.found.items [] (terms_below (drop l.term-index l.terms)) ≡ free_below l.initial.bound.items l.initial.found.items [] (terms_below l.terms))

abbrev pub invariant-note_fields-loop-term : goal.invariant-note_fields-loop-term
invariant-note_fields-loop-term l =
    (l.bound.items ≡ l.initial.bound.items)
    × (free_below l.initial.bound.items l.found.items [] (fields_below (drop l.term-index l.fields)) ≡ free_below l.initial.bound.items l.initial.found.items [] (fields_below l.fields))

abbrev pub invariant-note_methods-loop-method : goal.invariant-note_methods-loop-method
invariant-note_methods-loop-method l =
    (l.bound.items ≡ l.initial.bound.items)
    × (free_below l.initial.bound.items l.found.items (map bound_in (drop l.method-index l.methods)) (bodies_below (drop l.method-index l.methods)) ≡ free_below l.initial.bound.items l.initial.found.items (map bound_in l.methods) (bodies_below l.methods))
