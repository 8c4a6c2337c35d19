use Rattle.std.proofs.Common.{◌≡◌, ◌<◌, ℕ, true, refl, sym, ap, subst, ◌∙◌}
use Rattle.std.specs.Arc.{arc_value}
use Rattle.asp_model.specs.Names.{FutureShape}
use Rattle.asp_model.specs.Parcel.{ParcelShape, unpack_at}
use Rattle.asp_model.specs.Store.{Future, Store, cell}
use Rattle.asp_model.specs.Chase.{Values, Value, chase}
use Rattle.asp_model.specs.Intent.{Ready, Reads, operand_ready}
use Rattle.asp_model.specs.Shapes.{future_shape}
use Rattle.code_table.specs.Shapes.{parcel_shape, store_of}
use Rattle.code_table.proofs.CodedLemmas.{length-store_of}
use Rattle.activity_step.specs.Standings.{code_of}
use Rattle.future_table.specs.Values.{values_of}
use Rattle.step_reads.specs.Strict.{IsFetched}
use Rattle.step_reads.proofs.ChaseLemmas.{value_held, value_is}
use Rattle.step_reads.proofs.FetchLemmas.{of_code, reads_value}
use Rattle.step_reads.proofs.SightLemmas.{future_below}
use Rattle.step_reads.proofs.fetching.fetch.Goals as goal

pub returns-in_default-value-clause-fetched : goal.returns-in_default-value-clause-fetched
returns-in_default-value-clause-fetched c = λ a h.
    value_held (values_of c.args.futures.now) (future_shape c.in-Future.future.now) (future_shape c.in-Value.name.now) c.in-Value.ensures.chase c.in_default-value.ensures.value

pub fill-requires-clause-within : goal.fill-requires-clause-within
fill-requires-clause-within c =
    let s : Store = store_of (code_of c.args.activity.now) c.args.activity.now.state.store.cells in
    let at : cell s c.args.place ≡ Future (future_shape c.in-Future.future.now) = sym (c.in-Future.ensures.cell ∙ (λ i. cell (store_of ((c.deref.ensures ∙ ap arc_value c.code.ensures.code) i) (c.store.ensures.store i).cells) c.args.place)) in
    subst (λ (n : ℕ). c.args.place < n) (length-store_of (code_of c.args.activity.now) c.args.activity.now.state.store.cells) (future_below s c.args.place (future_shape c.in-Future.future.now) at)

pub fill-requires-clause-code : goal.fill-requires-clause-code
fill-requires-clause-code c = of_code (code_of c.args.activity.now) c.args.futures.now c.in-Some.value.now c.requires.code c.in-Some.ensures.held

pub returns-clause-fetched : goal.returns-clause-fetched
returns-clause-fetched c = λ a h.
    let values : Values = values_of c.args.futures.now in
    let n : ℕ = c.args.place in
    let f : FutureShape = future_shape c.in-Future.future.now in
    let g : FutureShape = future_shape c.in-Value.name.now in
    let p : ParcelShape = parcel_shape c.in-Some.value.now in
    let here : cell a.store n ≡ Future f = sym (c.in-Future.ensures.cell ∙ (λ i. cell (store_of ((c.deref.ensures ∙ ap arc_value c.code.ensures.code) i) (c.store.ensures.store i).cells) n) ∙ ap (λ (s : Store). cell s n) h.state.store) in
    let is : chase values f ≡ Value g p = value_is values f g c.in-Value.ensures.chase p c.in-Some.ensures.value in
    let ready : operand_ready (chase values) a.store n (cell a.store n) ≡ Reads (unpack_at a.store n p) = reads_value (chase values) a.store n f g p here is in
    subst (λ (r : Ready). IsFetched a r c.fill.new.self true) (sym ready) (refl, c.in_ok-fill.ensures.stands a h)
