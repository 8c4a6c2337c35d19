use Rattle.std.proofs.Common.{◌≡◌, sym, subst, length, arith}
use Rattle.code_table.specs.Cells.{CodedCell, CodedStore, bare}
use Rattle.object_store.specs.Index.{ChangesWhere, is_in_cell}
use Rattle.object_store.specs.Finder.{Follows, IsFitting}
use Rattle.object_store.specs.Places.{with_place}
use Rattle.object_store.proofs.StoredLemmas.{fitting_more}
use Rattle.object_store.proofs.store.Store.add.Goals as goal

pub invariant_of-self-then-at_hand-gt0 : goal.invariant_of-self-then-at_hand-gt0
invariant_of-self-then-at_hand-gt0 c =
    let s : CodedStore = c.self.inside.cells.items in
    let x = bare c.args.cell in
    let old = c.fit_one.new.self in
    let new = c.hold.new.self in
    let count : c.near_len-place.result ≡ length s = c.near_len-place.ensures in
    let held = subst (λ (y : CodedCell). Follows (ChangesWhere (is_in_cell y) (with_place c.near_len-place.result)) old new) c.lone.ensures.view c.in_ok-hold.ensures.places in
    let changes = subst (λ n. Follows (ChangesWhere (is_in_cell x) (with_place n)) old new) count held in
    let fits : IsFitting old s = c.in_ok-fit_one.ensures.fits c.self.invariant.fitting in
    record {
      fitting = subst (IsFitting new) (sym c.push_near.ensures.items) (fitting_more old new s x fits changes);
      room = omega (arith, c.push_near.ensures.free, c.self.invariant.room);
    }
