use Rattle.std.proofs.Common.{map, take}
use Rattle.future_table.specs.Values.{values_of}
use Rattle.future_update.specs.Holders.{home_shape}
use Rattle.core_thaws.specs.Telling.{AreTold, KeepsRest}
use Rattle.core_thaws.proofs.edges.begin_all.Given as goal

abbrev pub invariant-loop-place : goal.invariant-loop-place
invariant-loop-place g l = AreTold (map home_shape (take l.place l.homes)) (values_of l.futures) l.edges.holders.holders × KeepsRest l.fn.edges l.edges
