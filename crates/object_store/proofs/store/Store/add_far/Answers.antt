use Rattle.std.proofs.Common.{◌≡◌, ◌∙◌, sym, ap, subst, length, arith, ◌++◌, ◌∷◌, []}
use Rattle.code_table.specs.Cells.{CodedCell, CodedStore, bare}
use Rattle.object_store.specs.Index.{ChangesWhere, is_in_cell}
use Rattle.object_store.specs.Finder.{Follows, IsFitting}
use Rattle.object_store.specs.Places.{with_place}
use Rattle.object_store.specs.View.{StoreView}
use Rattle.object_store.proofs.StoredLemmas.{fitting_more}
use Rattle.object_store.proofs.store.Store.add_far.Goals as goal

pub invariant_of-self-2 : goal.invariant_of-self-2
invariant_of-self-2 c =
    let s : CodedStore = c.self.inside.cells.items in
    let x = bare c.args.cell in
    let old = c.fit_one.new.self in
    let new = c.hold.new.self in
    let grown = c.in_ok-reserve.ensures.items in
    let count : c.len-place.result ≡ length s = c.len-place.ensures ∙ sym (ap (λ (v : StoreView). length v.cells) c.self.view_is) in
    let items = c.push_reserved.ensures.items ∙ ap (λ (t : CodedStore). t ++ x ∷ []) grown in
    let held = subst (λ (y : CodedCell). Follows (ChangesWhere (is_in_cell y) (with_place c.len-place.result)) old new) c.lone.ensures.view c.in_ok-hold.ensures.places in
    let changes = subst (λ n. Follows (ChangesWhere (is_in_cell x) (with_place n)) old new) count held in
    let before = subst (IsFitting c.self.inside.finder) (sym grown) c.self.invariant.fitting in
    let fits : IsFitting old s = subst (IsFitting old) grown (c.in_ok-fit_one.ensures.fits before) in
    record {
      fitting = subst (IsFitting new) (sym items) (fitting_more old new s x fits changes);
      room = omega (arith, c.push_reserved.ensures.free, c.in_ok-reserve.ensures.kept, c.self.invariant.room);
    }
