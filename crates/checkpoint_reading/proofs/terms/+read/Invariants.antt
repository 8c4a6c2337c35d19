use Rattle.std.proofs.Common.{◌*◌, ◌+◌}
use Rattle.asp_model.specs.Shapes.{tree_of}
use Rattle.checkpoint_text.specs.Reading.{both, method_with, text}
use Rattle.checkpoint_reading.specs.Terms.{field_pair, level, method_pair}
use Rattle.checkpoint_items.proofs.ListLemmas.{AreRead}
use Rattle.checkpoint_reading.proofs.terms.+read.Given as goal

abbrev pub invariant-read_terms-loop : goal.invariant-read_terms-loop
invariant-read_terms-loop l = AreRead (level l.depth) tree_of l.count l.initial.items l.counter l.terms.items l.items

abbrev pub invariant-read_fields-loop : goal.invariant-read_fields-loop
invariant-read_fields-loop l = AreRead (both text (level l.depth)) field_pair l.count l.initial.items l.counter l.fields.items l.items

abbrev pub invariant-read_methods-loop : goal.invariant-read_methods-loop
invariant-read_methods-loop l = AreRead (method_with (level l.depth)) method_pair l.count l.initial.items l.counter l.methods.items l.items

-- fewer levels are left at each term below a node
abbrev pub decreases-read_level : goal.decreases-read_level
decreases-read_level l = 6 * l.depth

abbrev pub decreases-read_boxed : goal.decreases-read_boxed
decreases-read_boxed l = 6 * l.depth + 1

abbrev pub decreases-read_two : goal.decreases-read_two
decreases-read_two l = 6 * l.depth + 2

abbrev pub decreases-read_named : goal.decreases-read_named
decreases-read_named l = 6 * l.depth + 2

abbrev pub decreases-read_terms : goal.decreases-read_terms
decreases-read_terms l = 6 * l.depth + 2

abbrev pub decreases-read_field : goal.decreases-read_field
decreases-read_field l = 6 * l.depth + 2

abbrev pub decreases-read_method : goal.decreases-read_method
decreases-read_method l = 6 * l.depth + 2

abbrev pub decreases-read_fields : goal.decreases-read_fields
decreases-read_fields l = 6 * l.depth + 3

abbrev pub decreases-read_methods : goal.decreases-read_methods
decreases-read_methods l = 6 * l.depth + 3

abbrev pub decreases-read_clone : goal.decreases-read_clone
decreases-read_clone l = 6 * l.depth + 4

abbrev pub decreases-read_repeat : goal.decreases-read_repeat
decreases-read_repeat l = 6 * l.depth + 4

abbrev pub decreases-read_print : goal.decreases-read_print
decreases-read_print l = 6 * l.depth + 4

abbrev pub decreases-read_size : goal.decreases-read_size
decreases-read_size l = 6 * l.depth + 4

abbrev pub decreases-read_waitall : goal.decreases-read_waitall
decreases-read_waitall l = 6 * l.depth + 4

abbrev pub decreases-read_get : goal.decreases-read_get
decreases-read_get l = 6 * l.depth + 4

abbrev pub decreases-read_active : goal.decreases-read_active
decreases-read_active l = 6 * l.depth + 4

abbrev pub decreases-read_put : goal.decreases-read_put
decreases-read_put l = 6 * l.depth + 4

abbrev pub decreases-read_scatter : goal.decreases-read_scatter
decreases-read_scatter l = 6 * l.depth + 4

abbrev pub decreases-read_let : goal.decreases-read_let
decreases-read_let l = 6 * l.depth + 4

abbrev pub decreases-read_member : goal.decreases-read_member
decreases-read_member l = 6 * l.depth + 4

abbrev pub decreases-read_operate : goal.decreases-read_operate
decreases-read_operate l = 6 * l.depth + 4

abbrev pub decreases-read_if : goal.decreases-read_if
decreases-read_if l = 6 * l.depth + 4

abbrev pub decreases-read_steps : goal.decreases-read_steps
decreases-read_steps l = 6 * l.depth + 4

abbrev pub decreases-read_group : goal.decreases-read_group
decreases-read_group l = 6 * l.depth + 4

abbrev pub decreases-read_call : goal.decreases-read_call
decreases-read_call l = 6 * l.depth + 4

abbrev pub decreases-read_make : goal.decreases-read_make
decreases-read_make l = 6 * l.depth + 4

abbrev pub decreases-read_node : goal.decreases-read_node
decreases-read_node l = 6 * l.depth + 5
