use Rattle.std.proofs.Common.{rules, ◌≡◌, ◌∙◌, ◌<◌, length, take, ◌++◌, ◌∷◌, [], sym, ap, subst, arith, length-take-le}
use Rattle.code_table.specs.Cells.{CodedCell, coded}
use Rattle.code_table.proofs.CodedLemmas.{take_cell}
use Rattle.object_store.specs.Index.{ChangesWhere, IsIndexed, is_in_cell}
use Rattle.object_store.specs.Places.{with_place}
use Rattle.object_store.proofs.StoredLemmas.{indexed_more}
use Rattle.object_store.proofs.index.Index.of.Goals as goal

pub loop-place-preserved : goal.loop-place-preserved
loop-place-preserved c =
    let s = c.args.cells.now.items in
    let n = c.loop-place.place in
    let x : CodedCell = coded c.view.result in
    let lt : n < length s = search rules in
    let more = take_cell s n lt ∙ ap (λ (y : CodedCell). take n s ++ y ∷ []) (sym c.view.ensures.view) in
    let count : n ≡ length (take n s) = sym (length-take-le n s (omega (arith, lt))) in
    let changes = subst (λ k. ChangesWhere (is_in_cell x) (with_place k) c.loop-place.index c.hold.new.self) count c.in_ok-hold.ensures.places in
    record {
      within = omega (arith, lt);
      so_far = subst (IsIndexed c.hold.new.self) (sym more) (indexed_more c.loop-place.index c.hold.new.self (take n s) x c.loop-place.invariant.so_far changes);
    }
