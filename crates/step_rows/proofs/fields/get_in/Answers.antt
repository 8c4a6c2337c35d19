use Rattle.std.proofs.Common.{◌≡◌, ◌<◌, ℕ, List, Option, Some, None, length, get_or, slice_get, sym, ap, ◌∙◌}
use Rattle.std.proofs.lemmas.Option.{get_or_from_slice_get, slice_get_within}
use Rattle.asp_model.specs.Names.{Text}
use Rattle.asp_model.specs.Store.{Store}
use Rattle.asp_model.specs.Contraction.{get_row, stays_at}
use Rattle.asp_model.specs.Contraction as contraction
use Rattle.code_table.specs.declared.class.Class.{Class}
use Rattle.code_table.specs.declared.code.Node.{Node}
use Rattle.code_table.specs.Classes.{class_at, seen_class, field_number}
use Rattle.code_table.proofs.LookupLemmas as lookup
use Rattle.code_table.specs.Shapes.{class_object, store_of}
use Rattle.code_table.specs.Places.{placed}
use Rattle.step_rows.proofs.fields.get_in.Goals as goal

pub returns-in_default-field_keyed : goal.returns-in_default-field_keyed
returns-in_default-field_keyed c = record {
  row = λ s.
      let k : List Node = c.args.code.now in
      let ns : List ℕ = placed c.args.object.places in
      let l : Text = c.args.label.now.label.text in
      let x : Class = c.in-Some.class.now in
      let S : Store = store_of k s in
      let here : class_at k c.args.object.class ≡ Some x = sym c.class.ensures.class ∙ ap seen_class c.in-Some.is in
      let none : field_number l x ≡ None = sym c.field_keyed.ensures.number ∙ c.in_default-field_keyed.is in
      ap (λ (o : Option Class). get_row S l (class_object k ns o)) here ∙ ap (contraction.field_found S) (lookup.field_missing l x ns none);
}

pub returns : goal.returns
returns c = record {
  row = λ s.
      let k : List Node = c.args.code.now in
      let ns : List ℕ = placed c.args.object.places in
      let l : Text = c.args.label.now.label.text in
      let x : Class = c.in-Some.class.now in
      let S : Store = store_of k s in
      let here : class_at k c.args.object.class ≡ Some x = sym c.class.ensures.class ∙ ap seen_class c.in-Some.is in
      let i : ℕ = c.in-Some-field_keyed.field in
      let is : field_number l x ≡ Some i = sym c.field_keyed.ensures.number ∙ c.in-Some-field_keyed.is in
      let p : ℕ = c.in-Some-get.place in
      let got : slice_get ns i ≡ Some p = sym c.get.ensures.place ∙ c.in-Some-get.is in
      let lt : i < length ns = slice_get_within ns i p got in
      let at : p ≡ get_or ns i 0 = sym (get_or_from_slice_get ns i p 0 got) in
      ap (λ (o : Option Class). get_row S l (class_object k ns o)) here ∙ ap (contraction.field_found S) (lookup.field_found l x ns i is lt)
      ∙ ap (λ (n : ℕ). stays_at n S) (sym at);
}
