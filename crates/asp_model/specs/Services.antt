-- What services could take, and which labels they asked for, for each activity of a run.
use Rattle.std.specs.Prelude.{Bool, List}
use Rattle.asp_model.specs.Names.{Name, Text}

-- a request that came: who sent it, and what it asks for
pub record ArrivalShape : Type 0 where
  pub sender : Name
  pub label : Text

-- an activity: what came, oldest first, whether it asked what is pending, and the labels of its services, each set once
pub record ServiceEntryShape : Type 0 where
  pub name : Name
  pub arrivals : List ArrivalShape
  pub polled : Bool
  pub sets : List (List Text)

-- the activities, in ascending order of names
abbrev pub ServicesShape : Type 0
ServicesShape = List ServiceEntryShape
