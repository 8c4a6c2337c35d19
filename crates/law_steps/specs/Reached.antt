-- How configurations are reached: by moves from the start of a program.
use Rattle.std.specs.Prelude.{◌≡◌, ℕ, true, List, Option, Some, is_some}
use Rattle.std.specs.FinMap.{find}
use Rattle.law_steps.specs.Systems.{Leads}
use Rattle.asp_model.specs.Names.{Name, FutureShape, name_cmp, future_cmp}
use Rattle.asp_model.specs.Term.{Tree}
use Rattle.asp_model.specs.Parcel.{ParcelShape}
use Rattle.asp_model.specs.Configuration.{Activity, Configuration, start}
use Rattle.asp_model.specs.Step.{ListsShape, step}
use Rattle.def_journals.specs.Deliveries.{edge_delivered, need_delivered}

pub data Move : Type 0 where
  -- a step of an activity, with lists or without
  Steps : (lists : Option ListsShape) (name : Name) → Move
  -- a delivery of a future's own value, at each place of an activity that holds the future
  Edges : (future : FutureShape) (to : Name) → Move
  -- a delivery of the value that a future leads to, at one place
  Needs : (future : FutureShape) (to : Name) (place : ℕ) → Move

-- a move leads from the one configuration to the other
abbrev pub Makes : Move → Configuration → Configuration → Type 0
Makes (Steps lists n) c d = step lists c n ≡ Some d
Makes (Edges f to) c d = edge_delivered c f to ≡ Some d
Makes (Needs f to place) c d = need_delivered c f to place ≡ Some d

-- moves lead from the start of the program to the configuration
pub record IsReached (program : Tree) (c : Configuration) : Type 0 where
  pub moves : List Move
  pub run : Leads Makes (start program) moves c

-- a run with these lists or without lists, by the names of those who step
abbrev pub RunsTo : Option ListsShape → Configuration → List Name → Configuration → Type 0
RunsTo lists = Leads (λ n c d. step lists c n ≡ Some d)

-- this is the activity of that name
abbrev pub IsAt : Configuration → Name → Activity → Type 0
IsAt c n a = find name_cmp n c.activities ≡ Some a

-- an activity has that name
abbrev pub IsThere : Configuration → Name → Type 0
IsThere c n = is_some (find name_cmp n c.activities) ≡ true

-- this is the future's value
abbrev pub HasValue : Configuration → FutureShape → ParcelShape → Type 0
HasValue c f p = find future_cmp f c.futures ≡ Some p

-- the future has a value
abbrev pub IsFilled : Configuration → FutureShape → Type 0
IsFilled c f = is_some (find future_cmp f c.futures) ≡ true

-- a step from a reached configuration, with lists or without
pub record IsStep (program : Tree) (c d : Configuration) (n : Name) : Type 0 where
  pub lists : Option ListsShape
  pub reached : IsReached program c
  pub steps : step lists c n ≡ Some d

-- the start is reached
abbrev pub StartIsReached : Type 0
StartIsReached = (program : Tree) → IsReached program (start program)

-- what a move leads to from a reached configuration is reached
abbrev pub MovesGoOn : Type 0
MovesGoOn = (program : Tree) (c d : Configuration) (move : Move)
    → IsReached program c → Makes move c d → IsReached program d

-- what a run leads to from a reached configuration is reached
abbrev pub RunsGoOn : Type 0
RunsGoOn = (program : Tree) (lists : Option ListsShape) (names : List Name) (c d : Configuration)
    → IsReached program c → RunsTo lists c names d → IsReached program d
