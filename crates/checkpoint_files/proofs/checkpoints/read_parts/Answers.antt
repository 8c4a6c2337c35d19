use Rattle.std.proofs.Common.{map}
use Rattle.std.proofs.lemmas.Result.{err_from_is_err_and}
use Rattle.checkpoint_items.specs.Lines.{home_shape}
use Rattle.checkpoint_reading.specs.Cells.{value_shape}
use Rattle.checkpoint_files.proofs.FileLemmas.{no_activities, no_homes, no_values, three_parts}
use Rattle.checkpoint_files.specs.Files.{activity_shapes}
use Rattle.checkpoint_files.proofs.checkpoints.read_parts.Goals as goal

pub returns-in_err-homes : goal.returns-in_err-homes
returns-in_err-homes c =
    let q = err_from_is_err_and c.from_residual.result c.from_residual.ensures.1 in
    rw (q.1, q.2)
    (record { reading = no_homes _ _ _ c.in_err-homes.field-0.0 c.in_err-homes.ensures.homes })

pub returns-in_err-values : goal.returns-in_err-values
returns-in_err-values c =
    let q = err_from_is_err_and c.from_residual-in_err-values.result c.from_residual-in_err-values.ensures.1 in
    rw (q.1, q.2)
    (record {
      reading = no_values _ _ _ c.in_err-values.field-0.0
          (map home_shape c.in_ok-homes.homes.items) c.in_ok-homes.ensures.homes c.in_err-values.ensures.values;
    })

pub returns-in_err-activities : goal.returns-in_err-activities
returns-in_err-activities c =
    let q = err_from_is_err_and c.from_residual-in_err-activities.result c.from_residual-in_err-activities.ensures.1 in
    rw (q.1, q.2)
    (record {
      reading = no_activities _ _ _ c.in_err-activities.field-0.0 (map home_shape c.in_ok-homes.homes.items)
          (map value_shape c.in_ok-values.values.items) c.in_ok-homes.ensures.homes c.in_ok-values.ensures.values
          c.in_err-activities.ensures.read;
    })

pub returns : goal.returns
returns c = record {
  reading = three_parts _ _ _ (map home_shape c.in_ok-homes.homes.items) (map value_shape c.in_ok-values.values.items)
      (activity_shapes c.in_ok-activities.activities.items) c.in_ok-homes.ensures.homes c.in_ok-values.ensures.values
      c.in_ok-activities.ensures.read;
}
