use Rattle.std.proofs.Common.{drop, map}
use Rattle.future_update.specs.Holders.{AreHomes, home_shape}
use Rattle.future_update.specs.Records.{shape_of}
use Rattle.future_update.proofs.homes.homes_by_future.Given as goal

abbrev pub invariant-loop-number : goal.invariant-loop-number
invariant-loop-number l = AreHomes (drop l.number (shape_of l.records).homes) (map home_shape l.homes.entries)
