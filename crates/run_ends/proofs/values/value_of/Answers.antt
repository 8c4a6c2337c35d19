use Rattle.std.proofs.Common.{◌∙◌}
use Rattle.asp_model.specs.Shapes.{future_shape}
use Rattle.future_table.specs.Values.{values_of}
use Rattle.run_ends.proofs.ValueLemmas.{seen_is, value_told}
use Rattle.run_ends.proofs.values.value_of.Goals as goal

pub returns-in-Value : goal.returns-in-Value
returns-in-Value c = record {
  value = seen_is c.value.result ∙ c.value.ensures.value
      ∙ value_told (values_of c.args.futures.now) (future_shape c.args.future.now) (future_shape c.in-Value.name.now) c.in-Value.ensures.chase;
}
