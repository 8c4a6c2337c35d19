use Rattle.std.proofs.Common.{◌≡◌, ◌∙◌, List, ℕ, map, sym, ap, subst}
use Rattle.std.specs.Arc.{arc_value}
use Rattle.asp_model.specs.Parcel.{ParcelShape, number_in}
use Rattle.law_steps.specs.Closed.{IsClosedParcel}
use Rattle.code_table.specs.declared.code.Node.{Node}
use Rattle.code_table.specs.Cells.{CodedStore}
use Rattle.code_table.specs.Fits.{AllFitCode}
use Rattle.code_table.specs.Shapes.{store_of}
use Rattle.deep_copy.proofs.PackLemmas.{copies_of, copies_fit, packed, parcel_closed}
use Rattle.deep_copy.proofs.packing.numbered.Goals as goal

abbrev made : List Node → CodedStore → List ℕ → ParcelShape
made code cells roots = record { cells = store_of code cells; roots = roots }

pub returns-clause-parcel : goal.returns-clause-parcel
returns-clause-parcel c =
    let code = arc_value c.args.code.now in
    let s = c.args.store.now.cells in
    let keys = c.args.order.now in
    let roots = c.args.roots.now in
    let cells : c.in_ok-cells.cells.items ≡ copies_of (number_in keys) s keys = c.in_ok-cells.ensures.items ∙ c.in_ok-copied_cells.ensures ∙ ap (λ (f : ℕ → ℕ). copies_of f s keys) c.requires.moves in
    let numbers = c.in_ok-roots.ensures ∙ ap (λ (f : ℕ → ℕ). map f roots) c.requires.moves in
    ap (λ (k : List Node). made k c.in_ok-cells.cells.items c.in_ok-roots.roots.items) c.in_ok-code.ensures
    ∙ packed code c.requires.sound s keys roots c.in_ok-roots.roots.items c.in_ok-cells.cells.items c.requires.order cells numbers

pub returns-clause-closed : goal.returns-clause-closed
returns-clause-closed c = subst IsClosedParcel (sym (returns-clause-parcel c)) (parcel_closed (arc_value c.args.code.now) c.args.store.now.cells c.args.roots.now c.requires.closed c.requires.within)

pub returns-clause-fits : goal.returns-clause-fits
returns-clause-fits c =
    let code = arc_value c.args.code.now in
    let s = c.args.store.now.cells in
    let keys = c.args.order.now in
    let cells : c.in_ok-cells.cells.items ≡ copies_of (number_in keys) s keys = c.in_ok-cells.ensures.items ∙ c.in_ok-copied_cells.ensures ∙ ap (λ (f : ℕ → ℕ). copies_of f s keys) c.requires.moves in
    λ h. subst (AllFitCode code) (sym cells) (copies_fit code (number_in keys) s keys h)
