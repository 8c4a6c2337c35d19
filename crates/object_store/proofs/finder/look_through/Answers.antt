use Rattle.std.proofs.Common.{◌≡◌, ◌∙◌, ◌<◌, ℕ, List, true, false, length, sym, ap, arith, append-nil}
use Rattle.asp_model.specs.Names.{FutureShape}
use Rattle.asp_model.specs.Shapes.{future_shape}
use Rattle.code_table.specs.Cells.{CodedStore, cell_at}
use Rattle.object_store.specs.Holders.{is_future}
use Rattle.object_store.proofs.HoldersLemmas.{walked}
use Rattle.object_store.proofs.finder.look_through.Goals as goal
use Rattle.object_store.proofs.finder.look_through.Goals.{then-is_future+in_ok-push, else-is_future}

pub loop-place-preserved : goal.loop-place-preserved
loop-place-preserved c =
    let f : FutureShape = future_shape c.args.future.now in
    let s : CodedStore = c.args.cells.now.items in
    let n : ℕ = c.loop-place.place in
    let xs : List ℕ = c.loop-place.places.items in
    let lt : n < length s = omega (arith, c.loop-place-test.true, c.len.ensures) in
    let told : c.is_future.result ≡ is_future f (cell_at s n) = c.is_future.ensures ∙ ap (is_future f) c.view.ensures.view in
    record {
      within = omega (arith, lt);
      rest = elim c.if-is_future.branch [
        | then-is_future+in_ok-push w ↦ walked f s n true xs c.if-is_future.places.items lt (sym told ∙ w.if-is_future.true) (ap (λ v. v.items) w.places-is ∙ w.in_ok-push.ensures.items) ∙ c.loop-place.invariant.rest
        | else-is_future w ↦ walked f s n false xs c.if-is_future.places.items lt (sym told ∙ w.if-is_future.false) (ap (λ v. v.items) w.places-is ∙ sym (append-nil xs)) ∙ c.loop-place.invariant.rest
      ];
    }
