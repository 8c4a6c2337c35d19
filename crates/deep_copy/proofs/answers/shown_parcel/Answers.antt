use Rattle.std.proofs.Common.{ℕ, List, sym, subst}
use Rattle.std.specs.Arc.{arc_value}
use Rattle.asp_model.specs.Parcel.{ParcelShape}
use Rattle.law_steps.specs.Closed.{IsClosedValue}
use Rattle.code_table.specs.declared.code.Node.{Node}
use Rattle.code_table.specs.Cells.{CodedStore}
use Rattle.code_table.specs.Shapes.{store_of}
use Rattle.deep_copy.proofs.ShownLemmas.{shown_closed}
use Rattle.deep_copy.proofs.answers.shown_parcel.Goals as goal

abbrev made : List Node → CodedStore → List ℕ → ParcelShape
made code cells roots = record { cells = store_of code cells; roots = roots }

pub returns-clause-parcel : goal.returns-clause-parcel
returns-clause-parcel c = λ i. made (c.in_ok-code.ensures i) (c.in_ok-cells.ensures.items i) (c.one.ensures.items i)

pub returns-clause-value : goal.returns-clause-value
returns-clause-value c =
    let code = arc_value c.args.code.now in
    let closed = shown_closed code c.code_is_sound.ensures.sound c.args.answer.now c.len-size.ensures.shown in
    subst IsClosedValue (sym (returns-clause-parcel c)) closed
