use Rattle.std.proofs.Common.{◌≡◌, ◌∙◌, List, ℕ, drop, take, subst, ap}
use Rattle.asp_model.specs.declared.term.Term.{Term}
use Rattle.asp_model.specs.Shapes.{tree_of}
use Rattle.code_table.specs.Pieces.{Piece}
use Rattle.code_table.specs.Tables.{piece_at, pieces}
use Rattle.code_laws.specs.Nodes as nodes
use Rattle.code_reading.specs.Decoded.{IsContextIn}
use Rattle.code_reading.proofs.BehindLemmas.{if_ok}
use Rattle.step_machine.specs.Stacks.{last}
use Rattle.code_reading.specs.Shown.{hole_tree}
use Rattle.code_reading.proofs.TermLemmas.{context_is}
use Rattle.code_reading.proofs.frames.node_term.Goals as goal

pub returns : goal.returns
returns c = record {
  context = λ context waits.
      let ns : List ℕ = drop c.args.frame.base (take c.args.frame.height c.args.cursor.now.env.now) in
      let done : List ℕ = last c.args.frame.done c.args.cursor.now.operands.now in
      let p : Piece = nodes.later c.args.frame.from (piece_at (pieces c.args.code.now) c.args.frame.node) in
      let places_are : c.behind-places.result.now ≡ ns = c.behind-places.ensures.places ∙ ap (drop c.args.frame.base) c.up_to.ensures.places in
      if_ok c.context_of.result (λ (r : Term). IsContextIn c.behind-places.result.now c.last_of-done.result.now p (tree_of r)) (λ (r : Term). tree_of r ≡ hole_tree context)
      (λ r h. context_is c.args.code.now ns done c.args.frame.node c.args.frame.from (tree_of r) context
      (subst (λ (l : List ℕ). IsContextIn ns l p (tree_of r)) c.last_of-done.ensures.places (subst (λ (l : List ℕ). IsContextIn l c.last_of-done.result.now p (tree_of r)) places_are h)) waits)
      c.context_of.ensures.context;
}
