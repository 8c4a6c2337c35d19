use Rattle.std.proofs.Common.{◌≡◌, ◌∙◌, OnOk, length, sym, ap, subst}
use Rattle.std.specs.Arc.{arc_value}
use Rattle.asp_model.specs.Shapes.{future_shape}
use Rattle.code_table.specs.Shapes.{parcel_shape}
use Rattle.def_journals.specs.Deliveries.{unpack_each}
use Rattle.law_steps.specs.Closed.{AreBelow}
use Rattle.object_store.specs.Holders.{holders}
use Rattle.step_activity.specs.Actors.{Stands}
use Rattle.step_activity.proofs.FillingLemmas.{held, holders_below}
use Rattle.step_activity.proofs.actor.Actor.fill_each.Goals as goal

pub fill_all-requires-clause-within : goal.fill_all-requires-clause-within
fill_all-requires-clause-within c =
    let cells = c.args.self.now.activity.state.store.cells in
    let f = future_shape c.args.future.now in
    let found : c.deref.result.now ≡ holders f cells = c.deref.ensures.value ∙ c.in_ok-places.ensures.holders ∙ ap (λ s. holders f s.cells) c.store.ensures.store in
    subst (AreBelow (length cells)) (sym found) (holders_below f cells)

pub returns-clause-stands : goal.returns-clause-stands
returns-clause-stands c = λ a rs h.
    let x = c.args.self.now.activity in
    let f = future_shape c.args.future.now in
    let found = c.deref.ensures.value ∙ c.in_ok-places.ensures.holders ∙ ap (λ s. holders f s.cells) c.store.ensures.store ∙ held (arc_value x.code) f x.state.store.cells a.store h.activity.state.store in
    subst (λ ns. OnOk c.fill_all.result (Stands c.fill_all.new.self (record a { store = unpack_each a.store ns (parcel_shape c.args.value.now) }) rs)) found (c.fill_all.ensures.stands a rs h)
