use Rattle.std.proofs.Common.{length, sym, ap, subst, ◌∙◌, arith}
use Rattle.code_table.specs.Cells.{CodedCell, CodedStore, coded, moved_coded}
use Rattle.code_table.specs.Moves.{move_of}
use Rattle.object_store.specs.Finder.{Follows, IsFitting}
use Rattle.object_store.specs.Index.{ChangesWhere, is_in_cell}
use Rattle.object_store.specs.Places.{with_place, without_place}
use Rattle.object_store.specs.View.{StoreView}
use Rattle.object_store.proofs.StoredLemmas.{fitting_added, fitting_alike, fitting_undone, moved_alike}
use Rattle.object_store.proofs.store.Store.add_moved.Goals as goal

pub invariant_of-self-in_err-hold : goal.invariant_of-self-in_err-hold
invariant_of-self-in_err-hold c =
    let fits = c.in_ok-fit_one.ensures.fits c.self.invariant.fitting in
    record {
      fitting = fitting_alike c.fit_one.new.self c.hold.new.self c.self.inside.cells.items fits c.in_err-hold.ensures.err;
      room = c.self.invariant.room;
    }

pub invariant_of-self-in-Err : goal.invariant_of-self-in-Err
invariant_of-self-in-Err c =
    let s : CodedStore = c.self.inside.cells.items in
    let x : CodedCell = coded c.args.cell in
    let fits = c.in_ok-fit_one.ensures.fits c.self.invariant.fitting in
    let count = c.len-place.ensures ∙ sym (ap (λ (v : StoreView). length v.cells) c.self.view_is) in
    let noted = subst (λ n. Follows (ChangesWhere (is_in_cell x) (with_place n)) c.fit_one.new.self c.hold.new.self) count c.in_ok-hold.ensures.places in
    let forgotten = subst (λ n. Follows (ChangesWhere (is_in_cell x) (without_place n)) c.hold.new.self c.release.new.self) count c.release.ensures.places in
    record {
      fitting = subst (IsFitting c.release.new.self) (sym c.in-Err.ensures.err) (fitting_undone c.fit_one.new.self c.hold.new.self c.release.new.self s x fits noted forgotten);
      room = omega (arith, c.in-Err.ensures.kept, c.self.invariant.room);
    }

pub invariant_of-self-2 : goal.invariant_of-self-2
invariant_of-self-2 c =
    let s : CodedStore = c.self.inside.cells.items in
    let f = move_of c.args.moves.now in
    let x : CodedCell = coded c.args.cell in
    let fits = c.in_ok-fit_one.ensures.fits c.self.invariant.fitting in
    let count = c.len-place.ensures ∙ sym (ap (λ (v : StoreView). length v.cells) c.self.view_is) in
    let noted = subst (λ n. Follows (ChangesWhere (is_in_cell x) (with_place n)) c.fit_one.new.self c.hold.new.self) count c.in_ok-hold.ensures.places in
    record {
      fitting = subst (IsFitting c.hold.new.self) (sym c.in_default.ensures.items) (fitting_added c.fit_one.new.self c.hold.new.self s x (moved_coded f x) (moved_alike f x) fits noted);
      room = omega (arith, c.push_moved.ensures.free, c.self.invariant.room);
    }
