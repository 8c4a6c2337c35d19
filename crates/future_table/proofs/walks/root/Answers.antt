use Rattle.std.proofs.Common.{List, refl, sym, subst}
use Rattle.std.specs.Arc.{arc_value}
use Rattle.code_table.specs.declared.code.Node.{Node}
use Rattle.code_table.specs.Cells.{CodedStore, coded}
use Rattle.code_table.specs.Shapes.{parcel_shape}
use Rattle.future_table.specs.Walks.{IsRoot}
use Rattle.future_table.proofs.RootLemmas.{no_root, root_is}
use Rattle.future_table.proofs.walks.root.Goals as goal

pub returns-in-Some : goal.returns-in-Some
returns-in-Some c =
    let p = parcel_shape c.args.value.now in
    let k : List Node = arc_value c.args.value.now.code in
    let s : CodedStore = c.args.value.now.cells.items in
    record { root = subst (IsRoot p) (sym c.future_of.ensures.future) (root_is p k s refl (coded c.in-Some.cell) c.in-Some.ensures.got.1) }

pub returns-in-None : goal.returns-in-None
returns-in-None c =
    let p = parcel_shape c.args.value.now in
    let k : List Node = arc_value c.args.value.now.code in
    let s : CodedStore = c.args.value.now.cells.items in
    record { root = no_root p k s refl c.in-None.ensures.got }
