use Rattle.std.proofs.Common.{◌≡◌, drop}
use Rattle.std.specs.List.{list_all}
use Rattle.checkpoint_checks.specs.Maps.{activities_of, homes_of}
use Rattle.checkpoint_checks.specs.Activities.{activity_fits}
use Rattle.checkpoint_checks.proofs.activities.check_activities.Given as goal

abbrev pub invariant-loop-activity : goal.invariant-loop-activity
invariant-loop-activity l = list_all (activity_fits (activities_of l.world) (homes_of l.world)) (drop l.activity-index l.activities) ≡ list_all (activity_fits (activities_of l.world) (homes_of l.world)) l.activities
