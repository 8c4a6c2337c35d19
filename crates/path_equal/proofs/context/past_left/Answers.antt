use Rattle.std.proofs.Common.{List, ℕ, ap, sym, ◌∙◌}
use Rattle.std.specs.List.{flat_map}
use Rattle.asp_model.specs.Term.{locations_below}
use Rattle.code_table.specs.Tables.{pieces}
use Rattle.path_equal.specs.Held.{child_held, methods_behind}
use Rattle.path_equal.specs.Searches.{searched}
use Rattle.path_equal.proofs.SearchLemmas.{searched_both}
use Rattle.path_equal.proofs.context.past_left.Goals as goal

pub returns : goal.returns
returns c =
    let ns = c.args.places.now in
    let ps = pieces c.args.code.now in
    let terms : List ℕ = flat_map (child_held ns ps) c.args.left.now in
    let methods : List ℕ = locations_below (methods_behind ns ps c.args.node.now.kind) in
    record { searched = c.past_kind.ensures.searched ps c.requires.sound ∙ ap (searched methods) c.past_children-search.ensures.searched ∙ sym (searched_both terms methods c.args.start) }
