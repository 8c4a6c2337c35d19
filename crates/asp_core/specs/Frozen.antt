-- A core that was stopped, taken apart: what there is of a configuration.
use Rattle.std.specs.Prelude.{◌≡◌, List, [], map}
use Rattle.std.specs.Arc.{arc_value}
use Rattle.std.specs.Global.{Box}
use Rattle.std.specs.List.{AllByRecursion, AllZip}
use Rattle.asp_model.specs.Configuration as model
use Rattle.asp_model.specs.Configuration.{Configuration, RequestShape, log_of, requests_of}
use Rattle.asp_model.specs.History.{FirstShape, HistoryShape}
use Rattle.asp_model.specs.Names.{Name, future_cmp}
use Rattle.def_journals.specs.Edges.{homes_in}
use Rattle.def_journals.specs.Journals.{RunShape}
use Rattle.law_steps.specs.Reached.{IsAt}
use Rattle.law_frozen.specs.Frozen.{in_order}
use Rattle.code_table.specs.declared.code.Node.{Node}
use Rattle.future_table.specs.Values.{AreOfCode, values_of}
use Rattle.future_update.specs.Holders.{home_shape}
use Rattle.step_activity.specs.declared.actor.Actor.{Actor}
use Rattle.step_activity.specs.Actors.{Stands, code_of, log_in}
use Rattle.core_state.specs.declared.state.CoreState.{CoreState}
use Rattle.core_state.specs.Cores.{IsCore}
use Rattle.asp_core.specs.Gathering.{as_actor}
use Rattle.asp_core.specs.declared.freezing.Frozen.{Frozen}

-- where a run stands, as one that goes on begins
abbrev pub first_of : RunShape → FirstShape
first_of s = record { names = s.names; configuration = s.configuration }

-- it runs this code, and stands for the activity of that name in the configuration, with what that received
pub record IsFrozenAt (code : List Node) (c : Configuration) (n : Name) (x : Actor) : Type 0 where
  pub activity : model.Activity
  pub there : IsAt c n activity
  pub stands : Stands x activity (requests_of c n)
  pub logged : log_in x ≡ log_of c n
  pub coded : code_of x ≡ code

abbrev pub AreFrozenIn : List Node → Configuration → List (Name × Box Actor) → Type 0
AreFrozenIn code c = AllByRecursion (λ e. IsFrozenAt code c e.0 e.1.value)

-- its homes, values and activities are those of a configuration, whose activities were created in the order of these
-- names, and all runs its code
pub record StandsIn (x : Frozen) (f : FirstShape) : Type 0 where
  pub homes : map home_shape x.homes.items ≡ in_order future_cmp (homes_in f.configuration)
  pub futures : values_of x.futures ≡ f.configuration.futures
  pub values : AreOfCode (arc_value x.code) x.futures
  pub names : map (λ e. e.0) x.activities.items ≡ f.names
  pub activities : AreFrozenIn (arc_value x.code) f.configuration x.activities.items

-- How it comes to be

-- it stands for whatever it stood for before, with the same log and code
pub record KeepsActor (old new : Actor) : Type 0 where
  pub stands : (a : model.Activity) (rs : List RequestShape) → Stands old a rs → Stands new a rs
  pub logged : log_in new ≡ log_in old
  pub coded : code_of new ≡ code_of old

abbrev pub KeepsEntry : (old new : Name × Box Actor) → Type 0
KeepsEntry old new = (new.0 ≡ old.0) × KeepsActor old.1.value new.1.value

-- it came of these, one by one
abbrev pub AreSettledFrom : List (Name × Actor) → List (Name × Box Actor) → Type 0
AreSettledFrom all now = (was : List (Name × Box Actor)) × (map as_actor was ≡ all) × AllZip KeepsEntry was now

-- a core in which nobody is out
pub record IsStill (h : HistoryShape) (code : List Node) (x : CoreState) (s : RunShape) : Type 0 where
  pub core : IsCore h code x s
  pub back : s.out ≡ []

abbrev pub IsSomeStill : CoreState → Type 0
IsSomeStill x = (h : HistoryShape) × (code : List Node) × (s : RunShape) × IsStill h code x s
