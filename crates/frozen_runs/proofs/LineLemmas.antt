-- Futures with their values, as they are written.
use denote.Ref.{Bor}
use Rattle.std.proofs.Common.{◌≡◌, ◌∙◌, List, sym}
use Rattle.asp_model.specs.declared.name.FutureName.{FutureName}
use Rattle.asp_model.specs.Names.{FutureShape}
use Rattle.asp_model.specs.Parcel.{ParcelShape}
use Rattle.asp_model.specs.Shapes.{future_shape}
use Rattle.code_table.specs.declared.cells.Parcel.{Parcel}
use Rattle.code_table.specs.Shapes.{parcel_shape}
use Rattle.future_table.specs.Values.{lent_entries, lent_values}
use Rattle.checkpoint_text.specs.Items.{Items, future_items, list_items, pair_items, parcel_items}
use Rattle.checkpoint_text.proofs.WritingLemmas.{list_mapped}
use Rattle.frozen_runs.specs.Pieces.{value_items}

pub values_laid : (es : List (FutureName × Bor Parcel)) → list_items value_items es ≡ list_items (pair_items future_items parcel_items) (lent_values es)
values_laid es =
    let f : FutureShape × ParcelShape → Items = pair_items future_items parcel_items in
    let shape : FutureName × Parcel → FutureShape × ParcelShape = λ e. (future_shape e.0, parcel_shape e.1) in
    let lent : FutureName × Bor Parcel → FutureName × Parcel = λ e. (e.0, e.1.now) in
    sym (list_mapped (λ (e : FutureName × Parcel). f (shape e)) lent es) ∙ sym (list_mapped f shape (lent_entries es))
