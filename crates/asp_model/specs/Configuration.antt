-- The whole state of a run. Maps are lists of entries in the order of names.
use Rattle.std.specs.Prelude.{ℕ, List, [], ◌∷◌, Option, Some, None}
use Rattle.std.specs.FinMap.{find}
use Rattle.asp_model.specs.Names.{Name, FutureShape, Text, name_cmp, main_name}
use Rattle.asp_model.specs.Term.{Tree}
use Rattle.asp_model.specs.Split.{Context}
use Rattle.asp_model.specs.Store.{Store, Object}
use Rattle.asp_model.specs.Parcel.{ParcelShape}
use Rattle.asp_model.specs.Contraction.{LineShape}
use Rattle.asp_model.specs.Chase.{Values}

-- what is asked of an activity; the arguments stay a closed copy until they are served
pub record RequestShape : Type 0 where
  pub label : Text
  pub sender : Name
  pub future : FutureShape
  pub arguments : ParcelShape

-- what a request asks for
abbrev pub label_of : RequestShape → Text
label_of r = r.label

-- a term that waits for a service to end: the contexts of its `serve`, and the future that it had to answer
pub record ServiceShape : Type 0 where
  pub contexts : List Context
  pub future : Option FutureShape

-- an activity, apart from the requests that it received
pub record Activity : Type 0 where
  pub term : Tree
  -- the suspended services, oldest first
  pub services : List ServiceShape
  -- the future that the running service has to answer, if it is no start term
  pub present : Option FutureShape
  pub store : Store
  -- the location of the active object
  pub active : ℕ
  pub sends : ℕ
  pub creations : ℕ
  pub reductions : ℕ
  pub lines : List LineShape
  -- which of the received requests were served, by their numbers from 0
  pub served : List ℕ

-- what a log notes: that a request came from a sender, or that the activity asked what is pending
pub data ReceptionShape : Type 0 where
  From : (sender : Name) → ReceptionShape
  Poll : ReceptionShape

-- a state of a run: the activities, what they received, their logs, and the values of futures
pub record Configuration : Type 0 where
  pub activities : List (Name × Activity)
  -- all requests that each activity received, oldest first
  pub received : List (Name × List RequestShape)
  -- what each activity received and asked, oldest first
  pub logs : List (Name × List ReceptionShape)
  pub futures : Values

-- an activity that begins with a term, over a store and its active object
abbrev pub begun : Tree → Store → Activity
begun t s = record {
  term = t;
  services = [];
  present = None;
  store = s;
  active = 0;
  sends = 0;
  creations = 0;
  reductions = 0;
  lines = [];
  served = [];
}

-- the main activity alone, with the program as its term and an empty active object
abbrev pub start : Tree → Configuration
start program = record {
  activities = (main_name, begun program (Object [] [] ∷ [])) ∷ [];
  received = [];
  logs = [];
  futures = [];
}

-- a list, and no items where there is none
abbrev pub or_none : {X : Type 0} → Option (List X) → List X
or_none None = []
or_none (Some rs) = rs

-- all requests that an activity received
abbrev pub requests_of : Configuration → Name → List RequestShape
requests_of c n = or_none (find name_cmp n c.received)

-- the log of an activity
abbrev pub log_of : Configuration → Name → List ReceptionShape
log_of c n = or_none (find name_cmp n c.logs)
