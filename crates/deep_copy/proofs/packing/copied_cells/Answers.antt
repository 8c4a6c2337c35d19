use Rattle.std.proofs.Common.{◌≡◌, ◌<◌, ◌+◌, ◌++◌, ◌∷◌, [], ℕ, List, length, map, take, get_or, sym, ap, ◌∙◌}
use Rattle.std.proofs.lemmas.List.{map-append, take_more}
use Rattle.code_table.specs.Cells.{CodedCell, CodedStore, coded, moved_coded}
use Rattle.code_table.specs.Moves.{move_of}
use Rattle.deep_copy.specs.Copied.{copied_cell}
use Rattle.deep_copy.proofs.packing.copied_cells.Goals as goal

-- one copy more
copy_more : (copy : ℕ → CodedCell) (old new : CodedStore) (ps : List ℕ) (c : CodedCell) (i : ℕ) → old ≡ map copy (take i ps) → new ≡ old ++ c ∷ [] → c ≡ copy (get_or ps i 0) → i < length ps → new ≡ map copy (take (i + 1) ps)
copy_more copy old new ps c i so_far push is lt = push ∙ (λ j. so_far j ++ is j ∷ []) ∙ sym (ap (map copy) (take_more ps i 0 lt) ∙ map-append copy (take i ps) (get_or ps i 0 ∷ []))

pub loop-place-preserved : goal.loop-place-preserved
loop-place-preserved c =
    let s : CodedStore = c.args.store.now.cells in
    let f : ℕ → ℕ = move_of c.args.moves.now in
    copy_more (copied_cell c.args.moves.now s) c.loop-place.columns.items c.push_moved.new.self.items c.args.places.now (moved_coded f (coded c.cell.result)) c.loop-place.place-index
    c.loop-place.invariant c.in_ok-push_moved.ensures.items (ap (moved_coded f) c.cell.ensures.cell) c.loop-place-test.true
