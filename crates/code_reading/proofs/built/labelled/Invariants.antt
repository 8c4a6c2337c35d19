use Rattle.std.proofs.Common.{◌≡◌, ◌++◌, map, take, reverse}
use Rattle.asp_model.specs.Shapes.{tree_of}
use Rattle.code_table.specs.Tables.{text_of}
use Rattle.code_table.specs.Parts.{field_label, field_tree}
use Rattle.code_reading.proofs.built.labelled.Given as goal

abbrev pub invariant-loop-label : goal.invariant-loop-label
invariant-loop-label l = record {
  labels : map field_label l.fields.items ≡ map text_of (take l.label-index l.labels);
  terms : map field_tree l.fields.items ++ map tree_of (reverse l.terms.items) ≡ map tree_of l.fn.terms.items;
}
