-- Where an activity stands, as the definitions have it.
use Rattle.std.specs.Prelude.{ℕ, Bool, true, false}
use Rattle.asp_model.specs.Names.{FutureShape}
use Rattle.asp_model.specs.Intent as intent
use Rattle.asp_model.specs.Intent.{StatusShape}
use Rattle.asp_model.specs.Shapes.{fault_shape, future_shape}
use Rattle.step_parts.specs.declared.outlook.Outlook.{Outlook}
use Rattle.step_parts.specs.declared.outlook.Outlook.TheVariants as outlook
use Rattle.step_parts.specs.declared.stance.Stance.{Stance}
use Rattle.step_parts.specs.declared.stance.Stance.TheVariants as stance

pub data StanceShape : Type 0 where
  -- the value of this future is owed to it, at this place
  Needs : (f : FutureShape) (place : ℕ) → StanceShape
  -- it may step, by a communication or by a contraction
  Goes : (communicates : Bool) → StanceShape
  Rests : (status : StatusShape) → StanceShape

abbrev pub stance_shape : Stance → StanceShape
stance_shape (stance.Needs p f) = Needs (future_shape f.now) p
stance_shape stance.Contracts = Goes false
stance_shape stance.Communicates = Goes true
stance_shape (stance.Awaits f) = Rests (intent.Awaits (future_shape f.now))
stance_shape (stance.Faulted x) = Rests (intent.Faulted (fault_shape x))
stance_shape stance.Serving = Rests intent.Serving
stance_shape stance.Done = Rests intent.Done

-- where no operand is a future: by what it does next, and whether its redex asks others
abbrev pub free_stance : Bool → Outlook → StanceShape
free_stance b outlook.Steps = Goes b
free_stance b (outlook.Sends n) = Goes true
free_stance b outlook.Polls = Goes true
free_stance b (outlook.Awaits f) = Rests (intent.Awaits (future_shape f.now))
free_stance b (outlook.Faulted x) = Rests (intent.Faulted (fault_shape x))
free_stance b outlook.Serving = Rests intent.Serving
free_stance b outlook.Done = Rests intent.Done
