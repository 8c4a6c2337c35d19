-- What an activity of a configuration consists of, apart from what it received and served before.
use Rattle.std.specs.Prelude.{◌≡◌, List, reverse}
use Rattle.std.specs.Option.{option_map}
use Rattle.asp_model.specs.Configuration as model
use Rattle.asp_model.specs.Configuration.{RequestShape}
use Rattle.asp_model.specs.Shapes.{future_shape}
use Rattle.code_table.specs.declared.code.Node.{Node}
use Rattle.request_queue.specs.Pending.{pending_of, waiting}
use Rattle.activity_step.specs.Advances as state
use Rattle.step_activity.specs.declared.parts.ActorParts.{ActorParts}

-- the parts of an activity that runs this code and received these requests
pub record ArePartsOf (x : ActorParts) (code : List Node) (a : model.Activity) (rs : List RequestShape) : Type 0 where
  pub count : x.count ≡ a.reductions
  pub sends : x.sends ≡ a.sends
  pub creations : x.creations ≡ a.creations
  pub pending : waiting x.queue ≡ pending_of a.served 0 rs
  pub present : option_map future_shape x.present ≡ a.present
  pub state : state.Stands code x.state a.term (reverse a.services) a.store a.lines
  pub active : x.active ≡ a.active
