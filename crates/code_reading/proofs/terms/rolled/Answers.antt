use Rattle.std.proofs.Common.{rules, ◌≡◌, ◌∙◌, ◌≤◌, List, length, map, arith}
use Rattle.std.proofs.lemmas.List.{length-map}
use Rattle.asp_model.specs.Shapes.{tree_of}
use Rattle.asp_model.specs.Term.{Tree, Steps, node, trees}
use Rattle.asp_model.specs.declared.term.Term.{Term}
use Rattle.code_table.specs.Pieces.{Piece, Pieces}
use Rattle.code_table.specs.Tables.{piece_at, pieces, pieces_of}
use Rattle.code_reading.specs.Decoded.{IsRolled, rolled_tree, seen_tree}
use Rattle.code_reading.proofs.BehindLemmas.{if_ok, rolled_once, rolled_twice}
use Rattle.code_reading.proofs.terms.rolled.Goals as goal

pub returns-then-len-eq1 : goal.returns-then-len-eq1
returns-then-len-eq1 c =
    let ts : List Tree = map seen_tree c.args.kept.now in
    let ps : List Piece = pieces c.args.code.now in
    let below : Pieces = pieces_of ps c.args.node.now.children.items in
    let p : Piece = piece_at ps c.args.number in
    let us : List Tree = map tree_of c.args.terms.items in
    let one : length c.args.terms.items ≡ 1 = search (rules, c.if-len-eq1.true, c.len.ensures) in
    record {
      rolled = if_ok c.with_itself-then-len-eq1.result (λ (r : Term). tree_of r ≡ rolled_tree ts p us) (λ (r : Term). IsRolled ts below p us (tree_of r))
          (λ r h. rolled_once ts below p us (tree_of r) (length-map c.args.terms.items tree_of ∙ one) h) c.with_itself-then-len-eq1.ensures.rolled;
    }

pub returns-else-len-eq1 : goal.returns-else-len-eq1
returns-else-len-eq1 c =
    let ts : List Tree = map seen_tree c.args.kept.now in
    let ps : List Piece = pieces c.args.code.now in
    let below : Pieces = pieces_of ps c.args.node.now.children.items in
    let p : Piece = piece_at ps c.args.number in
    let us : List Tree = map tree_of c.args.terms.items in
    let size : length us ≡ length c.args.terms.items = length-map c.args.terms.items tree_of in
    let two : 2 ≤ length c.args.terms.items = grind (arith, c.if-len-eq1.false, c.len.ensures, c.is_empty.ensures, c.if-is_empty.false) in
    record {
      rolled = if_ok c.sequence.result (λ (r : Term). tree_of r ≡ node Steps (trees us)) (λ (r : Term). IsRolled ts below p us (tree_of r))
          (λ r h. rolled_twice ts below p us (tree_of r) (omega (arith, two, size)) h) c.sequence.ensures.term;
    }
