use Rattle.std.proofs.Common.{◌∙◌, ℕ, List, sym, ap, subst}
use Rattle.std.specs.Arc.{arc_value}
use Rattle.asp_model.specs.Parcel.{ParcelShape}
use Rattle.law_steps.specs.Closed.{IsClosedParcel}
use Rattle.code_table.specs.declared.code.Node.{Node}
use Rattle.code_table.specs.Cells.{CodedStore, coded}
use Rattle.code_table.specs.Shapes.{store_of}
use Rattle.deep_copy.proofs.LeafLemmas.{leaf_fits, leaf_packed}
use Rattle.deep_copy.proofs.PackLemmas.{parcel_closed}
use Rattle.deep_copy.proofs.packing.pack.Goals as goal

abbrev made : List Node → CodedStore → List ℕ → ParcelShape
made code cells roots = record { cells = store_of code cells; roots = roots }

pub returns-in_ok-parcel-in-Some-clause-parcel : goal.returns-in_ok-parcel-in-Some-clause-parcel
returns-in_ok-parcel-in-Some-clause-parcel c =
    let code = arc_value c.args.code.now in
    let s = c.args.store.now.cells in
    let p = c.in_ok-parcel-in-Some.parcel in
    ap (λ (k : List Node). made k p.cells.items p.roots.items) c.in_ok-parcel-in-Some.ensures.code
    ∙ leaf_packed code c.code_is_sound.ensures.sound s c.args.roots.now (coded c.in-Some.cell) p.cells.items p.roots.items c.in-Some.ensures.leaf c.in_ok-parcel-in-Some.ensures.cells c.in_ok-parcel-in-Some.ensures.roots

pub returns-in_ok-parcel-in-Some-clause-closed : goal.returns-in_ok-parcel-in-Some-clause-closed
returns-in_ok-parcel-in-Some-clause-closed c = subst IsClosedParcel (sym (returns-in_ok-parcel-in-Some-clause-parcel c)) (parcel_closed (arc_value c.args.code.now) c.args.store.now.cells c.args.roots.now c.requires.closed c.requires.within)

pub returns-in_ok-parcel-in-Some-clause-fits : goal.returns-in_ok-parcel-in-Some-clause-fits
returns-in_ok-parcel-in-Some-clause-fits c = λ h. leaf_fits (arc_value c.args.code.now) c.args.store.now.cells c.args.roots.now (coded c.in-Some.cell) c.in_ok-parcel-in-Some.parcel.cells.items c.in-Some.ensures.leaf c.in_ok-parcel-in-Some.ensures.cells h
