use Rattle.std.proofs.Common.{◌≡◌, None, take}
use Rattle.asp_model.specs.Chase.{chase}
use Rattle.code_table.specs.Shapes.{parcel_shape}
use Rattle.future_table.specs.Values.{values_of}
use Rattle.step_reads.specs.Sights.{first_missed}
use Rattle.code_table.specs.Places.{placed}
use Rattle.step_reads.proofs.members.missed_in.Given as goal

abbrev pub invariant-loop-at : goal.invariant-loop-at
invariant-loop-at l =
    let chases = chase (values_of l.futures) in let s = (parcel_shape l.parcel).cells in
    first_missed chases s (take l.at (placed l.places)) ≡ None
