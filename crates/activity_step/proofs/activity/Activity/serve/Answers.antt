use Rattle.std.proofs.Common.{rules, ◌≡◌, ◌+◌, ◌∷◌, ℕ, suc, List, reverse, refl, ap, subst, ◌∙◌, arith}
use Rattle.std.specs.Arc.{arc_value}
use Rattle.std.specs.Option.{option_map}
use Rattle.asp_model.specs.Parcel.{ParcelShape, unpack, unpacked_roots}
use Rattle.code_table.specs.Cells.{held_future}
use Rattle.code_table.specs.declared.code.Node.{Node}
use Rattle.code_table.specs.Shapes.{parcel_shape, store_of}
use Rattle.step_machine.specs.Rows.{without_last}
use Rattle.step_machine.specs.Services.{IsAtSome, suspended_view}
use Rattle.step_machine.specs.Standing.{View, view_of}
use Rattle.activity_step.specs.declared.activity.Activity.{Activity}
use Rattle.activity_step.proofs.RunLemmas.{some_of}
use Rattle.activity_step.proofs.ServingLemmas.{served}
use Rattle.activity_step.proofs.activity.Activity.serve.Goals as goal

pub returns-clause-serves : goal.returns-clause-serves
returns-clause-serves c = λ a contexts redex h splits.
    let x : Activity = c.args.self.now in
    let k : List Node = arc_value x.code in
    let v : View = view_of c.redex.new.self in
    let n : ℕ = c.in_ok-count.count in
    let p : ParcelShape = parcel_shape c.args.arguments in
    let ks : List ℕ = c.in_ok-places.places.items in
    let same : c.nodes-nodes.result.now ≡ k = c.nodes-nodes.ensures.nodes ∙ c.deref.ensures in
    let some : IsAtSome k v a.term (reverse a.services) n = some_of k c.nodes-nodes.result.now (view_of x.state.machine) v n a.term (reverse a.services) same h.state.machine c.in_ok-count.ensures.redex in
    let view : view_of c.suspend.new.self ≡ suspended_view (option_map held_future x.present) c.args.label.text (x.active ∷ ks) (without_last n v) =
    c.in_ok-suspend.ensures.view ∙ (λ i. suspended_view (option_map held_future (c.replace-waiting.ensures.value i)) c.args.label.text (x.active ∷ c.as_slice.ensures.items i) (c.take_off.ensures.view i)) in
    let cells : store_of k c.unpack.new.store.cells ≡ unpack (store_of k x.state.store.cells) p =
    subst (λ (q : List Node). store_of q c.unpack.new.store.cells ≡ unpack (store_of q x.state.store.cells) p) c.requires.code c.in_ok-places.ensures.cells in
    let roots : ks ≡ unpacked_roots (store_of k x.state.store.cells) p = subst (λ (q : List Node). ks ≡ unpacked_roots (store_of q x.state.store.cells) p) c.requires.code c.in_ok-places.ensures.roots in
    let plus : c.in_ok-reductions.reductions ≡ x.count + 1 = search (rules, c.in_ok-reductions.ensures, c.checked_add.ensures) in
    let counted : c.in_ok-reductions.reductions ≡ suc x.count = omega (arith, plus) in
    let y : Activity = record x { state = record { machine = c.suspend.new.self; store = c.unpack.new.store; lines = x.state.lines }; present = c.replace-waiting.new.dest; count = c.in_ok-reductions.reductions } in
    served x y a v n contexts redex c.args.label.text (held_future c.args.future) p ks h splits some view cells roots refl refl (ap (option_map held_future) c.replace-waiting.ensures.after) refl counted
