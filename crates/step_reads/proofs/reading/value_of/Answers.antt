use Rattle.std.proofs.Common.{◌∙◌, ap}
use Rattle.asp_model.specs.Store.{CellShape}
use Rattle.asp_model.specs.Shapes.{future_shape}
use Rattle.code_table.specs.Shapes.{parcel_shape}
use Rattle.future_table.specs.Values.{values_of}
use Rattle.step_reads.specs.Faces.{face}
use Rattle.step_reads.specs.Sights.{Shows}
use Rattle.step_reads.proofs.ChaseLemmas.{value_held, value_shows}
use Rattle.step_reads.proofs.reading.value_of.Goals as goal

pub returns-in-Some : goal.returns-in-Some
returns-in-Some c = record {
  sight = ap (λ (d : CellShape). Shows (face d)) c.root_of.ensures.root
      ∙ value_shows (values_of c.args.futures.now) (future_shape c.args.future.now) (future_shape c.in-Value.name.now) c.in-Value.ensures.chase (parcel_shape c.in-Some.value.now) c.in-Some.ensures.value;
}

pub returns-in-None : goal.returns-in-None
returns-in-None c = record {
  sight = value_held (values_of c.args.futures.now) (future_shape c.args.future.now) (future_shape c.in-Value.name.now) c.in-Value.ensures.chase c.in-None.ensures.value;
}
