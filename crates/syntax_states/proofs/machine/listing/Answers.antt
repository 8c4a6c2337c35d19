use Rattle.std.proofs.Common.{◌≡◌, List, Some, map, subst}
use Rattle.asp_model.specs.declared.term.Term.{Term}
use Rattle.asp_model.specs.Shapes.{marked_of}
use Rattle.syntax_grammar.specs.States.{InList}
use Rattle.syntax_grammar.specs.Closings.{opened}
use Rattle.syntax_terms.specs.Shapes.{target_shape, open_shape, stack}
use Rattle.syntax_states.specs.Shapes.{state_shape}
use Rattle.syntax_states.proofs.Others.{list_term}
use Rattle.syntax_states.proofs.machine.listing.Goals as goal

pub returns-in-Ok : goal.returns-in-Ok
returns-in-Ok c =
    let x = target_shape c.args.target in
    let s = open_shape c.args.state.now.inner in
    let o = stack c.args.state.now.outer.items in
    list_term c.begin.result c.begin.new.state c.open.new.state x s o c.args.token c.args.at c.in_default.not-Close
    (subst (λ (ts : List Term). opened (InList x (map marked_of ts)) s o ≡ Some (state_shape c.open.new.state)) c.new-terms.ensures.items c.in-Ok.ensures)
    c.begin.ensures
