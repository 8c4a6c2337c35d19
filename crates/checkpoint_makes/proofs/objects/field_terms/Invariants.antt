use Rattle.std.proofs.Common.{◌≡◌, ◌++◌, map}
use Rattle.code_table.specs.Parts.{field_label, field_tree}
use Rattle.checkpoint_makes.specs.Objects.{label_at, place_tree}
use Rattle.checkpoint_makes.proofs.objects.field_terms.Given as goal

abbrev pub invariant-loop-field : goal.invariant-loop-field
invariant-loop-field l = record {
  labels : map field_label l.terms.items ≡ map label_at l.yielded;
  places : map field_tree l.terms.items ≡ map place_tree l.yielded;
  whole : l.fn.fields.items ≡ l.yielded ++ l.field-iterator.rest.items;
}
