use Rattle.std.proofs.Common.{◌≡◌, ◌∙◌, ℕ, nat_lt, List, Some, sym, ap}
use Rattle.code_table.specs.declared.class.Class.{Class}
use Rattle.code_table.specs.declared.code.Node.{Node}
use Rattle.code_table.specs.Classes.{class_at, seen_class}
use Rattle.step_reads.proofs.LabelLemmas.{has_no_field, has_field_at}
use Rattle.code_table.specs.Places.{placed}
use Rattle.step_reads.proofs.rows.has_field.Goals as goal

pub returns-in_default-field : goal.returns-in_default-field
returns-in_default-field c = record {
  field =
      let k : List Node = c.args.code.now in
      let x : Class = c.in-Some.class.now in
      let here : class_at k c.args.object.class ≡ Some x = sym c.class.ensures.class ∙ ap seen_class c.in-Some.is in
      has_no_field k (placed c.args.object.places) (class_at k c.args.object.class) x here c.args.label.now.text (sym c.field.ensures.number ∙ c.in_default-field.is);
}

pub returns : goal.returns
returns c = record {
  field =
      let k : List Node = c.args.code.now in
      let x : Class = c.in-Some.class.now in
      let here : class_at k c.args.object.class ≡ Some x = sym c.class.ensures.class ∙ ap seen_class c.in-Some.is in
      ap (λ (n : ℕ). nat_lt c.in-Some-field.number n) c.len.ensures ∙ has_field_at k (placed c.args.object.places) (class_at k c.args.object.class) x here c.args.label.now.text c.in-Some-field.number (sym c.field.ensures.number ∙ c.in-Some-field.is);
}
