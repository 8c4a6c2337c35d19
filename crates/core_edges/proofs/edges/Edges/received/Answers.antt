use Rattle.asp_model.specs.Shapes.{future_shape}
use Rattle.std.specs.Arc.{arc_value}
use Rattle.code_table.specs.Shapes.{parcel_shape}
use Rattle.def_journals.specs.Passing.{futures_in}
use Rattle.core_edges.specs.Passing.{futures_held}
use Rattle.core_edges.proofs.AnswerLemmas.{on_ok}
use Rattle.core_edges.proofs.PassingLemmas.{held_are, received_holders}
use Rattle.core_edges.proofs.edges.Edges.received.Goals as goal

pub returns-clause-holders : goal.returns-clause-holders
returns-clause-holders g c =
    let value = c.args.value.now in
    let cells = value.cells.items in
    let old = c.args.self.now in
    let mid = c.pass_held.new.self in
    let new = record mid { holders = c.received.new.self } in
    on_ok c.received.result (received_holders g.P.UpdatePolicy.answer g.P.UpdatePolicy.asked (future_shape c.args.future.now) (futures_held cells) (futures_in (parcel_shape value).cells) c.args.by.now old mid new (held_are (arc_value value.code) cells) c.in_ok-pass_held.ensures.passed) c.received.ensures.received
