use Rattle.std.proofs.Common.{◌∙◌, ap}
use Rattle.std.specs.Arc.{arc_value}
use Rattle.code_table.specs.Cells.{CodedStore}
use Rattle.code_table.specs.Shapes.{store_of}
use Rattle.deep_copy.proofs.AloneLemmas.{taken_over}
use Rattle.deep_copy.proofs.unpacking.unpack_alone.Goals as goal

pub returns-clause-cells : goal.returns-clause-cells
returns-clause-cells c =
    let code = arc_value c.args.parcel.code in
    ap (λ (s : CodedStore). store_of code s) (c.in_ok-store.ensures.cells ∙ c.in_ok-columns.ensures.cells)
    ∙ taken_over code c.code_is_sound.ensures.sound c.args.parcel.cells.items c.args.parcel.roots.items
