-- The test of a whole checkpoint.
use Rattle.std.specs.Prelude.{◌&&◌, Bool, List, None, map}
use Rattle.std.specs.List.{list_all}
use Rattle.law_frozen.specs.Frozen.{FrozenActivity, FrozenShape}
use Rattle.checkpoint_parts.specs.declared.parts.CheckpointText.{CheckpointText}
use Rattle.checkpoint_parts.specs.Shapes.{checkpoint_shape}
use Rattle.law_checkpoints.specs.Standing.{standing_in}
use Rattle.checkpoint_checks.specs.Maps.{Activities, Homes, nobody, no_homes, no_futures}
use Rattle.checkpoint_checks.specs.Maps.{with_activities, with_homes, with_futures}
use Rattle.checkpoint_checks.specs.Names.{begin_with_main, all_named}
use Rattle.checkpoint_checks.specs.Homes.{all_housed, ascend_from, home_fits}
use Rattle.checkpoint_checks.specs.Standing.{are_fresh}
use Rattle.checkpoint_checks.specs.Cells.{value_fits}
use Rattle.checkpoint_checks.specs.Activities.{activity_fits}

-- what maps of all activities and of all homes have
abbrev pub all_activities : FrozenShape → Activities
all_activities f = with_activities nobody f.activities

abbrev pub all_homes : FrozenShape → Homes
all_homes f = with_homes no_homes f.homes

-- names and homes
abbrev pub names_fit : List FrozenActivity → Bool
names_fit xs = begin_with_main xs && list_all (all_named (with_activities nobody xs)) xs

abbrev pub homes_ascend : FrozenShape → Bool
homes_ascend f = ascend_from None (map (λ h. h.0) f.homes) && ascend_from None (map (λ v. v.0) f.filled)

-- what stands, and each home
abbrev pub stand_once : FrozenShape → Bool
stand_once f = are_fresh no_futures (standing_in f)
    && list_all (home_fits (all_activities f) (with_futures no_futures (standing_in f))) f.homes

-- activities and values
abbrev pub parts_fit : CheckpointText → Bool
parts_fit file =
    let f = checkpoint_shape file in
    list_all (activity_fits (all_activities f) (all_homes f)) file.activities.items
    && list_all (value_fits (all_activities f) (all_homes f)) f.filled

abbrev pub checkpoint_fits : CheckpointText → Bool
checkpoint_fits file =
    let f = checkpoint_shape file in
    names_fit f.activities && (homes_ascend f
    && (list_all (all_housed (all_homes f)) f.activities && (parts_fit file && stand_once f)))
