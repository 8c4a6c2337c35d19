use Rattle.std.proofs.Common.{◌≡◌, ◌∙◌, ◌++◌, ◌∷◌, [], map, sym, ap, subst, arith}
use Rattle.std.proofs.lemmas.List.{append-nil, append_assoc}
use Rattle.law_programs.specs.Proper.{IsProperCell}
use Rattle.checkpoint_reading.specs.Cells.{cell_shape}
use Rattle.checkpoint_makes.specs.Cells.{AreProper}
use Rattle.checkpoint_makes.proofs.MadeLemmas.{each_at, made_as, made_more, map_more, no_items, nothing_made}
use Rattle.checkpoint_makes.proofs.cells.make_cells.Goals as goal

pub loop-cell-init : goal.loop-cell-init
loop-cell-init c = record { made = nothing_made _ _ c.in_ok-columns.ensures.items; whole = sym c.into_iter-cell-iterator.ensures.into_iter_gives.0 }

pub push_cell-requires : goal.push_cell-requires
push_cell-requires c =
    let before = c.loop-cell.yielded in
    let whole : c.args.cells.items ≡ before ++ (c.in-Some.cell ∷ c.next.new.self.rest.items) = c.loop-cell.invariant.whole ∙ ap (λ items. before ++ items) c.in-Some.ensures.steps.0 in
    record { table = c.loop-cell.invariant.made.grows.table c.requires.table; proper = each_at IsProperCell cell_shape before c.in-Some.cell c.next.new.self.rest.items (subst AreProper whole c.requires.proper) }

pub loop-cell-preserved : goal.loop-cell-preserved
loop-cell-preserved c =
    let before = c.loop-cell.yielded in
    record {
      made = made_as _ _ _ _ _ (map_more cell_shape before c.in-Some.cell) (made_more _ _ _ _ _ _ _ c.loop-cell.invariant.made c.in_ok-push_cell.ensures.pushed);
      whole = c.loop-cell.invariant.whole ∙ ap (λ items. before ++ items) c.in-Some.ensures.steps.0 ∙ sym (append_assoc before (c.in-Some.cell ∷ []) c.next.new.self.rest.items);
    }

pub returns : goal.returns
returns c =
    let none : c.loop-cell.cell-iterator.rest.items ≡ [] = no_items c.loop-cell.cell-iterator.rest.items (omega (arith, c.loop-cell.cell-iterator.rest.ok, c.in-None.ensures.steps.0)) in
    let whole : c.args.cells.items ≡ c.loop-cell.yielded = c.loop-cell.invariant.whole ∙ ap (λ items. c.loop-cell.yielded ++ items) none ∙ append-nil c.loop-cell.yielded in
    record { made = made_as _ _ _ _ _ (ap (map cell_shape) whole) c.loop-cell.invariant.made }
