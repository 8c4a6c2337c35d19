use Rattle.std.proofs.Common.{◌<◌, length, refl, sym, subst, arith}
use Rattle.code_table.specs.Cells.{CodedCell, CodedStore, cell_at, coded, moved_coded}
use Rattle.code_table.specs.Moves.{move_of}
use Rattle.object_store.specs.Finder.{IsFitting}
use Rattle.object_store.specs.View.{StoreView}
use Rattle.object_store.proofs.StoredLemmas.{fitting_alike, fitting_exchanged, moved_alike}
use Rattle.object_store.proofs.store.Store.put_moved.Goals as goal

pub invariant_of-self : goal.invariant_of-self
invariant_of-self c =
    let s : CodedStore = c.self.inside.cells.items in
    let new = c.put_moved.new.finder in
    record {
      fitting = subst (IsFitting new) (sym c.in_err-put_moved.ensures.err) (fitting_alike c.self.inside.finder new s c.self.invariant.fitting c.in_err-put_moved.ensures.kept);
      room = omega (arith, c.put_moved.ensures.free, c.self.invariant.room);
    }

pub invariant_of-self-2 : goal.invariant_of-self-2
invariant_of-self-2 c =
    let s : CodedStore = c.self.inside.cells.items in
    let f = move_of c.args.moves.now in
    let x : CodedCell = coded c.args.cell in
    let p = c.args.loc in
    let new = c.put_moved.new.finder in
    let lt : p < length s = subst (λ (v : StoreView). p < length v.cells) (sym c.self.view_is) c.requires.within in
    record {
      fitting = subst (IsFitting new) (sym c.in_ok-put_moved.ensures.items) (fitting_exchanged c.self.inside.finder new s p x (cell_at s p) (moved_coded f x) (moved_alike f x) lt refl c.self.invariant.fitting c.in_ok-put_moved.ensures.noted);
      room = omega (arith, c.put_moved.ensures.free, c.self.invariant.room);
    }
