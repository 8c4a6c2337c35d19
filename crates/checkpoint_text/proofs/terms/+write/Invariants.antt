use Rattle.std.proofs.Common.{◌≡◌, ◌+◌, ◌*◌, ◌++◌, drop}
use Rattle.std.specs.Prelude.{string_bytes}
use Rattle.std.specs.List.{flat_map}
use Rattle.checkpoint_text.specs.Writing.{field_piece, method_piece, tree_items, words}
use Rattle.checkpoint_text.proofs.terms.+write.Given as goal

abbrev pub invariant-put_fields-loop-label : goal.invariant-put_fields-loop-label
invariant-put_fields-loop-label l = string_bytes l.text ++ words (flat_map field_piece (drop l.label-index l.fields)) ≡ string_bytes l.initial.text ++ words (flat_map field_piece l.fields)

abbrev pub invariant-put_methods-loop-method : goal.invariant-put_methods-loop-method
invariant-put_methods-loop-method l = string_bytes l.text ++ words (flat_map method_piece (drop l.method-index l.methods)) ≡ string_bytes l.initial.text ++ words (flat_map method_piece l.methods)

abbrev pub invariant-put_terms-loop-term : goal.invariant-put_terms-loop-term
invariant-put_terms-loop-term l = string_bytes l.text ++ words (flat_map tree_items (drop l.term-index l.terms)) ≡ string_bytes l.initial.text ++ words (flat_map tree_items l.terms)

-- fewer levels are left at each term below a node
abbrev pub decreases-put_level : goal.decreases-put_level
decreases-put_level l = 4 * l.depth

abbrev pub decreases-put_terms : goal.decreases-put_terms
decreases-put_terms l = 4 * l.depth + 1

abbrev pub decreases-put_fields : goal.decreases-put_fields
decreases-put_fields l = 4 * l.depth + 1

abbrev pub decreases-put_methods : goal.decreases-put_methods
decreases-put_methods l = 4 * l.depth + 1

abbrev pub decreases-put_one : goal.decreases-put_one
decreases-put_one l = 4 * l.depth + 2

abbrev pub decreases-put_get : goal.decreases-put_get
decreases-put_get l = 4 * l.depth + 2

abbrev pub decreases-put_named : goal.decreases-put_named
decreases-put_named l = 4 * l.depth + 2

abbrev pub decreases-put_call : goal.decreases-put_call
decreases-put_call l = 4 * l.depth + 2

abbrev pub decreases-put_active : goal.decreases-put_active
decreases-put_active l = 4 * l.depth + 2

abbrev pub decreases-put_let : goal.decreases-put_let
decreases-put_let l = 4 * l.depth + 2

abbrev pub decreases-put_row : goal.decreases-put_row
decreases-put_row l = 4 * l.depth + 2

abbrev pub decreases-put_if : goal.decreases-put_if
decreases-put_if l = 4 * l.depth + 2

abbrev pub decreases-put_operate : goal.decreases-put_operate
decreases-put_operate l = 4 * l.depth + 2

abbrev pub decreases-put_member : goal.decreases-put_member
decreases-put_member l = 4 * l.depth + 2

abbrev pub decreases-put_make : goal.decreases-put_make
decreases-put_make l = 4 * l.depth + 2

abbrev pub decreases-put_node : goal.decreases-put_node
decreases-put_node l = 4 * l.depth + 3
