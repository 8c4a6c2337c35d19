use Rattle.std.proofs.Common.{◌≡◌, ◌+◌, map, take}
use Rattle.asp_model.specs.Marked.{all_marked}
use Rattle.asp_model.specs.Shapes.{marked_of, tree_of}
use Rattle.code_table.specs.Marks.{HaveMarks, method_bodies}
use Rattle.code_compiler.specs.Added.{AddsCode, AddsTerms}
use Rattle.code_compiler.specs.Compiled.{AddsMarks, captured_count}
use Rattle.code_compiler.specs.Parts.{body_marked, field_marked}
use Rattle.code_table.specs.Parts.{field_tree}
use Rattle.code_compiler.proofs.terms.+compiling.Given as goal

abbrev pub invariant-compile_all-loop-term : goal.invariant-compile_all-loop-term
invariant-compile_all-loop-term l = record {
  adds : AddsTerms l.scope l.initial.uses l.uses l.initial.nodes l.nodes l.initial.children l.children (map tree_of (take l.term-index l.terms));
  marks : AddsMarks l.nodes.items l.initial.children.items l.children.items (all_marked (map marked_of (take l.term-index l.terms)));
}

abbrev pub invariant-compile_fields-loop-term : goal.invariant-compile_fields-loop-term
invariant-compile_fields-loop-term l = record {
  adds : AddsTerms l.scope l.initial.uses l.uses l.initial.nodes l.nodes l.initial.children l.children (map field_tree (take l.term-index l.fields));
  marks : AddsMarks l.nodes.items l.initial.children.items l.children.items (all_marked (map field_marked (take l.term-index l.fields)));
}

abbrev pub invariant-compile_methods-loop-method : goal.invariant-compile_methods-loop-method
invariant-compile_methods-loop-method l = record {
  adds : AddsCode l.scope l.initial.uses l.uses l.initial.nodes l.nodes l.first l.codes.items (take l.method-index l.methods);
  marks : HaveMarks l.nodes.items (method_bodies l.codes.items) (all_marked (map body_marked (take l.method-index l.methods)));
  next : l.start ≡ l.first + captured_count l.codes.items;
}
