use Rattle.std.proofs.Common.{◌≡◌, ◌∙◌, ◌∷◌, ◌++◌, [], List, map, ap, subst}
use Rattle.std.proofs.lemmas.List.{map-append}
use Rattle.asp_model.specs.Shapes.{tree_of}
use Rattle.asp_model.specs.Term.{Hole, Tree, leaf, loc}
use Rattle.asp_model.specs.declared.term.Term.{Term}
use Rattle.code_table.specs.Pieces.{Piece}
use Rattle.code_table.specs.Tables.{piece_at, pieces}
use Rattle.code_laws.specs.Nodes.{IsTerm, later}
use Rattle.code_laws.proofs.NodeLemmas.{is_term}
use Rattle.code_reading.specs.Decoded.{IsBehind, IsContextIn, seen_tree}
use Rattle.code_table.proofs.TermTrees.{hole_is}
use Rattle.code_reading.proofs.BehindLemmas.{if_ok, later_term, context_shown}
use Rattle.code_reading.proofs.terms.context_of.Goals as goal

pub returns : goal.returns
returns c =
    let ns = c.args.places.now in
    let done = c.args.done.now in
    let p : Piece = later c.args.from (piece_at (pieces c.args.code.now) c.args.number) in
    let term : IsTerm p = later_term c.args.from (piece_at (pieces c.args.code.now) c.args.number) (is_term c.args.code.now c.args.number) in
    let seen : map seen_tree c.deref.result.now ≡ map loc ns = ap (map seen_tree) c.deref.ensures.value ∙ c.in_ok-kept.ensures.seen in
    let us : List Tree = map loc done ++ leaf Hole ∷ [] in
    let terms : map tree_of c.push.new.self.items ≡ us =
    ap (map tree_of) c.in_ok-push.ensures.items ∙ map-append tree_of c.in_ok-terms.terms.items _ ∙ (λ i. c.in_ok-terms.ensures.locations i ++ hole_is c.blank.result i ∷ []) in
    record {
      context = if_ok c.node_behind.result (λ (r : Term). IsBehind (map seen_tree c.deref.result.now) p (map tree_of c.push.new.self.items) (tree_of r)) (λ (r : Term). IsContextIn ns done p (tree_of r))
          (λ r h. context_shown ns done p (tree_of r) term (subst (λ (ts : List Tree). IsBehind ts p us (tree_of r)) seen (subst (λ (vs : List Tree). IsBehind (map seen_tree c.deref.result.now) p vs (tree_of r)) terms h)))
          c.node_behind.ensures.behind;
    }
