use Rattle.std.proofs.Common.{◌≡◌, List, map, sym, ap, subst, ◌∙◌}
use Rattle.asp_model.specs.declared.term.Term.{Term}
use Rattle.asp_model.specs.declared.word.Label.{Label}
use Rattle.asp_model.specs.Names.{Text}
use Rattle.asp_model.specs.Shapes.{tree_of}
use Rattle.asp_model.specs.Term.{Call, loc, locs_then, node, none, trees}
use Rattle.code_table.specs.declared.code.Node.{Node}
use Rattle.code_table.specs.Sound.{IsSound}
use Rattle.code_table.specs.Tables.{node_piece, piece_at, pieces}
use Rattle.code_reading.proofs.BehindLemmas.{if_ok}
use Rattle.step_machine.specs.Calls.{called_label}
use Rattle.code_reading.proofs.TermLemmas.{locs_alone}
use Rattle.code_reading.proofs.groups.called_term.Goals as goal

pub returns : goal.returns
returns c = record {
  term = λ t x.
      let k : List Node = c.args.code.now in
      let e : c.nodes-nodes.result.now ≡ k = c.nodes-nodes.ensures.nodes in
      let is : piece_at (pieces k) c.args.number ≡ node_piece (pieces k) c.in-Some.node.now =
      subst (λ (q : List Node). IsSound q → piece_at (pieces q) c.args.number ≡ node_piece (pieces q) c.in-Some.node.now) e c.in-Some.ensures.piece c.nodes-nodes.ensures.sound in
      let l : Text = c.as_label.result.now.text in
      let label : called_label (piece_at (pieces k) c.args.number) ≡ l =
      ap called_label is ∙ c.in-Some-call_label.ensures.label (pieces k) ∙ sym (ap (λ (x : Label). x.text) c.as_label.ensures.label) in
      if_ok c.call_of.result (λ (r : Term). tree_of r ≡ node (Call l) (trees (map loc c.args.own.now))) (λ (r : Term). tree_of r ≡ t)
      (λ r h. h ∙ ap (node (Call l)) (locs_alone c.args.own.now) ∙ ap (λ (q : Text). node (Call q) (locs_then c.args.own.now none)) (sym label) ∙ sym x.is)
      c.call_of.ensures.call;
}
