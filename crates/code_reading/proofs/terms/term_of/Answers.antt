use Rattle.std.proofs.Common.{◌≡◌, ◌∙◌, List, IfOk, map, sym, ap, subst}
use Rattle.asp_model.specs.Shapes.{tree_of}
use Rattle.asp_model.specs.Term.{Tree, loc}
use Rattle.asp_model.specs.declared.term.Term.{Term}
use Rattle.code_table.specs.Pieces.{Piece}
use Rattle.code_table.specs.Tables.{piece_of, pieces}
use Rattle.code_laws.specs.Shown.{shown}
use Rattle.code_laws.proofs.ShownLemmas.{shown_is}
use Rattle.code_reading.specs.Decoded.{IsTermIn, seen_tree}
use Rattle.code_reading.proofs.BehindLemmas.{if_ok}
use Rattle.code_reading.proofs.terms.term_of.Goals as goal

pub returns : goal.returns
returns c =
    let ns = c.args.places.now in
    let p : Piece = piece_of (pieces c.args.code.now) c.args.child.now in
    let seen : map seen_tree c.deref.result.now ≡ map loc ns = ap (map seen_tree) c.deref.ensures.value ∙ c.in_ok-kept.ensures.seen in
    record {
      term = if_ok c.child_term.result (λ (r : Term). tree_of r ≡ shown (map seen_tree c.deref.result.now) p) (λ (r : Term). IsTermIn ns p (tree_of r))
          (λ r h xs scope runs. h ∙ ap (λ (ts : List Tree). shown ts p) seen ∙ sym (shown_is xs scope ns p runs)) c.child_term.ensures.term;
      shown = subst (λ (ts : List Tree). IfOk c.child_term.result (λ (r : Term). tree_of r ≡ shown ts p)) seen c.child_term.ensures.term;
    }
