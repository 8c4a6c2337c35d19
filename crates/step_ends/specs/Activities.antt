-- The configuration that activities by their names and filled futures stand for.
use Rattle.std.specs.Prelude.{◌≡◌, List, [], Option, Some, None}
use Rattle.std.specs.BTreeMap.{is_at}
use Rattle.std.specs.FinMap.{find}
use Rattle.std.specs.Global.{Box}
use Rattle.std.specs.Map.{lookup}
use Rattle.std.specs.Option.{option_map}
use Rattle.asp_model.specs.declared.name.FutureName.{FutureName}
use Rattle.asp_model.specs.Names.{Name, name_cmp}
use Rattle.asp_model.specs.Configuration as model
use Rattle.asp_model.specs.Configuration.{Configuration, RequestShape, log_of, requests_of}
use Rattle.code_table.specs.declared.cells.Parcel.{Parcel}
use Rattle.code_table.specs.declared.code.Node.{Node}
use Rattle.future_table.specs.Values.{AreOfCode, values_of}
use Rattle.law_steps.specs.Closed.{IsClosed}
use Rattle.law_steps.specs.Sound.{IsSound}
use Rattle.step_activity.specs.declared.actor.Actor.{Actor}
use Rattle.step_activity.specs.Actors.{Stands, code_of, log_in}

abbrev pub actor_at : List (Name × Box Actor) → Name → Option Actor
actor_at xs n = option_map (λ b. b.value) (lookup (is_at (name_cmp n)) xs)

-- nobody is there, or the one stands for the other, which received these requests
abbrev pub StandsAt : Option Actor → Option model.Activity → List RequestShape → Type 0
StandsAt None None rs = Unit {0}
StandsAt (Some x) (Some a) rs = Stands x a rs
StandsAt x a rs = ⊥

-- all activities run this code
abbrev pub RunCode : List Node → List (Name × Box Actor) → Type 0
RunCode k xs = (n : Name) (x : Actor) → actor_at xs n ≡ Some x → code_of x ≡ k

-- all activities have the configuration's logs
abbrev pub HaveLogs : Configuration → List (Name × Box Actor) → Type 0
HaveLogs c xs = (n : Name) (x : Actor) → actor_at xs n ≡ Some x → log_in x ≡ log_of c n

-- the activities with their logs and the filled futures are those of the configuration, all of one code
pub record StandFor (xs : List (Name × Box Actor)) (filled : List (FutureName × Parcel)) (c : Configuration) : Type 0 where
  pub activities : (n : Name) → StandsAt (actor_at xs n) (find name_cmp n c.activities) (requests_of c n)
  pub logs : HaveLogs c xs
  pub futures : values_of filled ≡ c.futures
  pub code : List Node
  pub actors : RunCode code xs
  pub values : AreOfCode code filled

-- and that is sound and closed
pub record StandForSound (xs : List (Name × Box Actor)) (filled : List (FutureName × Parcel)) (c : Configuration)
    : Type 0 where
  pub sound : IsSound c
  pub closed : IsClosed c
  pub population : StandFor xs filled c

abbrev pub StandForSome : List (Name × Box Actor) → List (FutureName × Parcel) → Type 0
StandForSome xs filled = (c : Configuration) × StandForSound xs filled c
