use Rattle.std.proofs.Common.{◌≡◌, IfOk, subst}
use Rattle.asp_model.specs.Marked.{Marked}
use Rattle.syntax_grammar.specs.Nodes.{part}
use Rattle.syntax_terms.specs.Shapes.{part_shape}
use Rattle.syntax_terms.proofs.Making.{make_is}
use Rattle.syntax_terms.proofs.node.made.Goals as goal

pub returns : goal.returns
returns c = record {
  made = subst (λ (m : Marked). IfOk c.part_of.result (λ p. part_shape p ≡ part c.args.object.at m)) (make_is c.args.object.fields c.args.object.methods _) c.part_of.ensures;
}
