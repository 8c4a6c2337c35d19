use Rattle.std.proofs.Common.{◌≡◌, ◌∙◌, true, false, is_some, rules, sym, ap}
use Rattle.asp_model.specs.Chase.{chase}
use Rattle.asp_model.specs.Shapes.{future_shape}
use Rattle.asp_model.specs.Store.{cell}
use Rattle.code_table.specs.Shapes.{parcel_shape}
use Rattle.def_journals.specs.Deliveries.{value_needed}
use Rattle.future_table.specs.Values.{values_of}
use Rattle.law_chases.proofs.FutureLemmas.{true_false}
use Rattle.step_reads.proofs.FetchLemmas.{of_code}
use Rattle.replay_population.proofs.DeliveryLemmas.{need_stored, need_value, needed_place, none_stored}
use Rattle.replay_population.proofs.deliveries.fill_needed.Goals as goal

pub fill-requires-clause-code : goal.fill-requires-clause-code
fill-requires-clause-code c = of_code _ c.args.futures.now c.in-Some.value.now c.requires.code c.in-Some.ensures.held

pub fill-requires-clause-within : goal.fill-requires-clause-within
fill-requires-clause-within c =
    let s = c.requires.somebody in
    let yes : c.needs.result ≡ true = search rules in
    needed_place c.args.actor.now s.0 s.1 (chase (values_of c.args.futures.now)) (future_shape c.args.future.now) c.args.place s.2 (sym (c.needs.ensures.needs s.0 s.1 s.2) ∙ yes)

pub unreachable-requires : goal.unreachable-requires
unreachable-requires c =
    let s = c.requires.somebody in
    let values = values_of c.args.futures.now in
    let f = future_shape c.args.future.now in
    let z = cell s.0.store c.args.place in
    let yes : c.needs.result ≡ true = search rules in
    let needed = sym (c.needs.ensures.needs s.0 s.1 s.2) ∙ yes in
    true_false (is_some (value_needed (chase values) f z)) needed (ap is_some (need_value values f z needed ∙ sym c.in_default.ensures.value))

pub returns-then-not-needs-clause-stored : goal.returns-then-not-needs-clause-stored
returns-then-not-needs-clause-stored c = λ a rs st.
    let no : c.needs.result ≡ false = search rules in
    none_stored c.args.actor.now a rs (values_of c.args.futures.now) (future_shape c.args.future.now) c.args.place (sym (c.needs.ensures.needs a rs st) ∙ no) st

pub returns-clause-stored : goal.returns-clause-stored
returns-clause-stored c = λ a rs st.
    let yes : c.needs.result ≡ true = search rules in
    need_stored c.fill.new.self a rs (values_of c.args.futures.now) (future_shape c.args.future.now) c.args.place (parcel_shape c.in-Some.value.now) (sym (c.needs.ensures.needs a rs st) ∙ yes) c.in-Some.ensures.value (c.in_ok-fill.ensures.stands a rs st)
