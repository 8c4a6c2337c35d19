use Rattle.std.proofs.Common.{◌≡◌, ◌<◌, ℕ, List, Option, Some, None, length, sym, ap, ◌∙◌, arith, drop}
use Rattle.asp_model.specs.Names.{Text}
use Rattle.asp_model.specs.Store.{Store, Object, Field, MethodShape, cell}
use Rattle.asp_model.specs.Contraction.{put_row, stays_at, with_field, fields_at}
use Rattle.asp_model.specs.Contraction as contraction
use Rattle.code_table.specs.declared.class.Class.{Class}
use Rattle.code_table.specs.declared.code.Node.{Node}
use Rattle.code_table.specs.Classes.{class_at, seen_class, field_number}
use Rattle.code_table.specs.Tables.{labels_of, pieces, seen_methods}
use Rattle.code_table.proofs.LookupLemmas as lookup
use Rattle.code_table.specs.Shapes.{class_object, cell_of, store_of}
use Rattle.code_table.proofs.CodedLemmas.{cell-store_of}
use Rattle.object_store.proofs.FieldLemmas.{places_set}
use Rattle.code_table.specs.Places.{placed}
use Rattle.step_rows.proofs.fields.put_in.Goals as goal

pub returns-in_default-field_keyed : goal.returns-in_default-field_keyed
returns-in_default-field_keyed c = record {
  row = λ s h.
      let k : List Node = c.args.code.now in
      let ns : List ℕ = placed c.args.object.places in
      let l : Text = c.args.label.now.label.text in
      let x : Class = c.in-Some.class.now in
      let S : Store = store_of k s in
      let i : ℕ = c.args.at in
      let here : class_at k c.args.object.class ≡ Some x = sym c.class.ensures.class ∙ ap seen_class c.in-Some.is in
      let none : field_number l x ≡ None = sym c.field_keyed.ensures.number ∙ c.in_default-field_keyed.is in
      let ms : List MethodShape = seen_methods (pieces k) x.methods.items (drop (length x.fields.items) ns) in
      ap (λ (o : Option Class). put_row S l i c.args.to (class_object k ns o)) here
      ∙ ap (contraction.field_set S i (Object (with_field l c.args.to (fields_at (labels_of x) ns)) ms)) (lookup.field_missing l x ns none);
}

pub returns : goal.returns
returns c = record {
  row = λ s h.
      let k : List Node = c.args.code.now in
      let ns : List ℕ = placed c.args.object.places in
      let l : Text = c.args.label.now.label.text in
      let x : Class = c.in-Some.class.now in
      let S : Store = store_of k s in
      let i : ℕ = c.args.at in
      let n : ℕ = c.in-Some-field_keyed.field in
      let here : class_at k c.args.object.class ≡ Some x = sym c.class.ensures.class ∙ ap seen_class c.in-Some.is in
      let is : field_number l x ≡ Some n = sym c.field_keyed.ensures.number ∙ c.in-Some-field_keyed.is in
      let lt : n < length ns = omega (arith, c.len.ensures, c.if-field-len.false) in
      let ms : List MethodShape = seen_methods (pieces k) x.methods.items (drop (length x.fields.items) ns) in
      let fs : List Field = fields_at (labels_of x) ns in
      let cell_is : cell S i ≡ Object fs ms = cell-store_of k s i ∙ ap (cell_of k) h ∙ ap (class_object k ns) here in
      ap (λ (o : Option Class). put_row S l i c.args.to (class_object k ns o)) here
      ∙ ap (contraction.field_set S i (Object (with_field l c.args.to fs) ms)) (lookup.field_found l x ns n is lt)
      ∙ ap (stays_at i) (sym (places_set k s i n c.args.to l c.args.object.class ns x fs ms h here is cell_is));
}
