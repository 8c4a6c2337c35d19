use Rattle.std.proofs.Common.{◌≡◌, ◌-◌, ◌<◌, length, sym, ap, subst, arith}
use Rattle.code_table.specs.Cells.{CodedCell, cell_at}
use Rattle.object_store.specs.Index.{ChangesWhere, is_in_cell}
use Rattle.object_store.specs.Finder.{Follows, IsFitting}
use Rattle.object_store.specs.Places.{without_place}
use Rattle.object_store.specs.View.{StoreView}
use Rattle.object_store.proofs.StoredLemmas.{fitting_forgotten}
use Rattle.object_store.proofs.store.Store.unappend.Goals as goal

pub invariant_of-self : goal.invariant_of-self
invariant_of-self c =
    let s = c.self.inside.cells.items in
    let old = c.self.inside.finder in
    let new = c.release.new.self in
    let some : 0 < length s = subst (λ (v : StoreView). 0 < length v.cells) (sym c.self.view_is) c.requires in
    let count : c.len-last.result - 1 ≡ length s - 1 = ap (λ n. n - 1) c.len-last.ensures in
    let held = subst (λ (x : CodedCell). Follows (ChangesWhere (is_in_cell x) (without_place (c.len-last.result - 1))) old new) c.view.ensures.view c.release.ensures.places in
    let changes = subst (λ n. Follows (ChangesWhere (is_in_cell (cell_at s n)) (without_place n)) old new) count held in
    record {
      fitting = subst (IsFitting new) (sym c.pop.ensures.items) (fitting_forgotten old new s some c.self.invariant.fitting changes);
      room = omega (arith, c.pop.ensures.free, c.self.invariant.room);
    }
