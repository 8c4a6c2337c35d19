use Rattle.std.proofs.Common.{◌∙◌, List, ap}
use Rattle.std.specs.FinMap.{find}
use Rattle.std.specs.Option.{option_map}
use Rattle.asp_model.specs.declared.name.FutureName.{FutureName}
use Rattle.asp_model.specs.Names.{future_cmp}
use Rattle.asp_model.specs.Shapes.{future_shape}
use Rattle.code_table.specs.declared.cells.Parcel.{Parcel}
use Rattle.code_table.specs.Shapes.{parcel_shape}
use Rattle.future_table.specs.Values.{by_name, values_of}
use Rattle.future_table.specs.Walks.{filled_in}
use Rattle.future_table.proofs.TableLemmas.{found_shape, lent_held, lent_shape}
use Rattle.future_table.proofs.table.FutureTable.value.Goals as goal

pub returns-clause-value : goal.returns-clause-value
returns-clause-value c =
    lent_shape c.value.result ∙ ap (option_map parcel_shape) c.value.ensures.value ∙ found_shape c.args.name.now (filled_in c.self.inside.walks)
    ∙ ap (λ (es : List (FutureName × Parcel)). find future_cmp (future_shape c.args.name.now) (values_of es)) c.self.view_is

pub returns-clause-held : goal.returns-clause-held
returns-clause-held c =
    lent_held c.value.result c.args.name.now c.args.self.now (c.value.ensures.value ∙ ap (λ (es : List (FutureName × Parcel)). find by_name c.args.name.now es) c.self.view_is)
