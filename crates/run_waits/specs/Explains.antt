-- What the end of a replay tells of waiting.
use Rattle.std.specs.Prelude.{◌≡◌, List, length}
use Rattle.asp_model.specs.Configuration.{Configuration}
use Rattle.asp_model.specs.declared.name.FutureName.{FutureName}
use Rattle.asp_model.specs.declared.outcome.ActivityReport.{ActivityReport}
use Rattle.code_table.specs.declared.cells.Parcel.{Parcel}
use Rattle.future_table.specs.Values.{values_of}
use Rattle.law_steps.specs.Sound.{IsSound}
use Rattle.wait_circles.specs.Ways.{AreCircles, AreEnds}
use Rattle.wait_circles.specs.Whys.{AreOf, AreWaits, names_of}
use Rattle.run_waits.specs.declared.explained.Explained.{Explained}
use Rattle.run_waits.specs.declared.receipts.Receipts.{Receipts}
use Rattle.run_waits.specs.Targets.{AreTold}

-- the activities of a configuration, its filled futures, and where each of its requests went
pub record IsEndTold (c : Configuration) (rs : List ActivityReport) (futures : List (FutureName × Parcel))
    (r : Receipts) : Type 0 where
  pub sound : IsSound c
  pub activities : AreOf c rs
  pub futures_are : values_of futures ≡ c.futures
  pub targets : AreTold c r

-- and for each activity whom it waits for, where its way ends, and the circles
pub record IsExplained (c : Configuration) (x : Explained) : Type 0 where
  pub told : IsEndTold c x.end.outcome.activities.items x.end.futures x.receipts
  pub size : length x.next.items ≡ length x.end.outcome.activities.items
  pub waits : AreWaits c x.next.items (names_of x.end.outcome.activities.items)
  pub circles : AreCircles x.next.items x.ways.circles.items
  pub ends : AreEnds x.next.items x.ways.circles.items x.ways.ends.items
