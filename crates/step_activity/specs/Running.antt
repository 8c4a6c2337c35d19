-- What a run of contractions leaves of an activity, and where it stops.
use Rattle.std.specs.Prelude.{◌≤◌, ℕ, List}
use Rattle.asp_model.specs.Configuration as model
use Rattle.asp_model.specs.Configuration.{RequestShape}
use Rattle.activity_step.specs.declared.advance.Advance.{Advance}
use Rattle.activity_step.specs.Activities.{IsStopAt, IsUsed}
use Rattle.activity_step.specs.Local.{LocalRun}
use Rattle.step_activity.specs.declared.actor.Actor.{Actor}
use Rattle.step_activity.specs.Actors.{Stands}

-- so many contractions that need no other activity were taken, where at most so many may be; fewer only where none is left to take
pub record IsRunBy (x : Actor) (a : model.Activity) (rs : List RequestShape) (most n : ℕ) : Type 0 where
  pub end : model.Activity
  pub advance : Advance
  pub run : LocalRun n a end
  pub within : n ≤ most
  pub stands : Stands x end rs
  pub stop : IsStopAt end advance
  pub used : IsUsed n most advance
