use Rattle.std.proofs.Common.{◌∙◌, ◌++◌, ap, map}
use Rattle.asp_model.specs.Term.{Make, node, trees}
use Rattle.asp_model.specs.Shapes.{tree_of}
use Rattle.code_table.specs.Tables.{text_of}
use Rattle.code_table.specs.Parts.{body_tree, method_head}
use Rattle.code_table.proofs.TermTrees.{make_is}
use Rattle.code_reading.proofs.SeenLemmas.{trees_append}
use Rattle.code_reading.proofs.built.object.Goals as goal

pub returns : goal.returns
returns c =
    let fields = c.in_ok-fields.fields in
    let methods = c.args.methods in
    record {
      term = make_is fields methods c.blank.result
          ∙ (λ i. node (Make (c.in_ok-fields.ensures.labels i) (map method_head methods.items)) (trees (c.in_ok-fields.ensures.terms i ++ map body_tree methods.items)))
          ∙ ap (node (Make (map text_of c.args.labels.now) (map method_head methods.items))) (trees_append (map tree_of c.args.terms.items) (map body_tree methods.items));
    }
