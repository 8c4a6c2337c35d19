use Rattle.std.proofs.Common.{List, ℕ, map, ap, sym, ◌∙◌, arith}
use Rattle.asp_model.specs.Term.{Tree, loc, locations}
use Rattle.code_table.specs.declared.code.Child.{Child}
use Rattle.code_table.specs.Tables.{piece_at, pieces, pieces_of}
use Rattle.code_laws.specs.Nodes.{nth}
use Rattle.code_laws.specs.Shown.{shown}
use Rattle.path_equal.specs.Searches.{searched}
use Rattle.path_equal.proofs.ContextLemmas.{roll_all}
use Rattle.path_equal.proofs.SearchLemmas.{searched_both}
use Rattle.path_equal.proofs.context.past_rolled.Goals as goal

pub returns-then-done-eq0 : goal.returns-then-done-eq0
returns-then-done-eq0 c =
    let ts : List Tree = map loc c.args.places.now in
    let ps = pieces c.args.code.now in
    let first : Tree = shown ts (nth 0 (pieces_of ps c.args.node.now.children.items)) in
    let itself : Tree = shown ts (piece_at ps c.args.number) in
    record {
      searched = λ le.
          c.past_node.ensures.searched
          ∙ ap (searched (locations itself)) (c.past_first-search.ensures.searched ∙ ap (λ (cs : List Child). searched (locations (shown ts (nth 0 (pieces_of ps cs)))) c.args.start) c.deref.ensures.value)
          ∙ sym (searched_both (locations first) (locations itself) c.args.start)
          ∙ ap (λ (xs : List ℕ). searched xs c.args.start) (roll_all first itself c.args.done (omega (arith, c.if-done-eq0.true)));
    }
