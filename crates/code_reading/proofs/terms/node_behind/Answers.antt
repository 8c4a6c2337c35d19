use Rattle.std.proofs.Common.{◌≡◌, ◌∙◌, ◌++◌, List, None, Some, length, map, drop, get_or, sym, ap}
use Rattle.std.proofs.lemmas.List.{length-map}
use Rattle.asp_model.specs.Shapes.{tree_of}
use Rattle.asp_model.specs.Term.{Tree}
use Rattle.asp_model.specs.declared.term.Term.{Term}
use Rattle.code_table.specs.declared.code.Child.{Child}
use Rattle.code_table.specs.declared.code.Node.{Node}
use Rattle.code_table.specs.Pieces.{Piece}
use Rattle.code_table.specs.Tables.{kind_piece, node_piece, piece_at, pieces, pieces_of}
use Rattle.code_table.proofs.TableLemmas.{node_here}
use Rattle.code_laws.specs.Nodes.{later}
use Rattle.code_reading.specs.Decoded.{IsBehind, IsRolled, finished_tree, gone, seen_tree, shown_child}
use Rattle.code_reading.proofs.BehindLemmas.{if_ok, ordinary_behind, rolled_behind}
use Rattle.code_reading.proofs.DecodeLemmas.{node_below}
use Rattle.code_reading.proofs.terms.node_behind.Goals as goal

pub ordinary-requires-clause-children : goal.ordinary-requires-clause-children
ordinary-requires-clause-children c =
    let n : Node = c.index-nodes-number.result in
    let is : n ≡ get_or c.args.code.now c.args.number n = c.index-nodes-number.is ∙ ap (λ (ns : List Node). get_or ns c.args.number n) c.nodes.ensures.nodes in
    (node_below c.args.code.now c.args.number n c.requires.within is c.nodes.ensures.sound).0

pub ordinary-requires-clause-methods : goal.ordinary-requires-clause-methods
ordinary-requires-clause-methods c =
    let n : Node = c.index-nodes-number.result in
    let is : n ≡ get_or c.args.code.now c.args.number n = c.index-nodes-number.is ∙ ap (λ (ns : List Node). get_or ns c.args.number n) c.nodes.ensures.nodes in
    (node_below c.args.code.now c.args.number n c.requires.within is c.nodes.ensures.sound).1

pub rolled-requires-clause-children : goal.rolled-requires-clause-children
rolled-requires-clause-children c =
    let n : Node = c.index-nodes-number.result in
    let is : n ≡ get_or c.args.code.now c.args.number n = c.index-nodes-number.is ∙ ap (λ (ns : List Node). get_or ns c.args.number n) c.nodes.ensures.nodes in
    (node_below c.args.code.now c.args.number n c.requires.within is c.nodes.ensures.sound).0

pub returns-in-Some : goal.returns-in-Some
returns-in-Some c =
    let n : Node = c.index-nodes-number.result in
    let ns : List Node = c.args.code.now in
    let ps : List Piece = pieces ns in
    let ts : List Tree = map seen_tree c.args.kept.now in
    let us : List Tree = map tree_of c.args.terms.items in
    let cs : List Child = n.children.items in
    let is : n ≡ get_or ns c.args.number n = c.index-nodes-number.is ∙ ap (λ (ms : List Node). get_or ms c.args.number n) c.nodes.ensures.nodes in
    let p : Piece = piece_at ps c.args.number in
    let at : p ≡ kind_piece ps n.kind (pieces_of ps cs) = node_here ns c.args.number n c.requires.within c.nodes.ensures.sound ∙ ap (node_piece ps) (sym is) in
    let g : gone n.kind c.args.from ≡ Some c.in-Some.gone = sym c.gone_in.ensures.gone ∙ c.in-Some.is in
    let size : length c.args.terms.items ≡ length us = sym (length-map c.args.terms.items tree_of) in
    record {
      behind = if_ok c.ordinary.result (λ (r : Term). tree_of r ≡ finished_tree ts ps n.kind (us ++ map (shown_child ts ps) (drop (length c.args.terms.items) (drop c.in-Some.gone cs))))
          (λ (r : Term). IsBehind ts (later c.args.from p) us (tree_of r))
          (λ r h. ordinary_behind ts ps n.kind cs c.args.from c.in-Some.gone us (length c.args.terms.items) p (tree_of r) at g size h) c.ordinary.ensures.term;
    }

pub returns-in-None : goal.returns-in-None
returns-in-None c =
    let n : Node = c.index-nodes-number.result in
    let ns : List Node = c.args.code.now in
    let ps : List Piece = pieces ns in
    let ts : List Tree = map seen_tree c.args.kept.now in
    let us : List Tree = map tree_of c.args.terms.items in
    let cs : List Child = n.children.items in
    let is : n ≡ get_or ns c.args.number n = c.index-nodes-number.is ∙ ap (λ (ms : List Node). get_or ms c.args.number n) c.nodes.ensures.nodes in
    let p : Piece = piece_at ps c.args.number in
    let at : p ≡ kind_piece ps n.kind (pieces_of ps cs) = node_here ns c.args.number n c.requires.within c.nodes.ensures.sound ∙ ap (node_piece ps) (sym is) in
    let g : gone n.kind c.args.from ≡ None = sym c.gone_in.ensures.gone ∙ c.in-None.is in
    record {
      behind = if_ok c.rolled.result (λ (r : Term). IsRolled ts (pieces_of ps cs) p us (tree_of r)) (λ (r : Term). IsBehind ts (later c.args.from p) us (tree_of r))
          (λ r h. rolled_behind ts ps n.kind cs c.args.from us p (tree_of r) at g h) c.rolled.ensures.rolled;
    }
