-- What a step gives to others, before it is handed on.
use Rattle.std.specs.Prelude.{◌≡◌, ℕ, [], Some, None, length}
use Rattle.std.specs.FinMap.{find}
use Rattle.asp_model.specs.Names.{Name, FutureShape, future_cmp}
use Rattle.asp_model.specs.Parcel.{ParcelShape}
use Rattle.asp_model.specs.Configuration as model
use Rattle.asp_model.specs.Configuration.{Configuration, RequestShape, log_of, requests_of}
use Rattle.asp_model.specs.Intent.{Acts, Effect}
use Rattle.asp_model.specs.Step.{intent_in}
use Rattle.def_journals.specs.Journals.{number_of}
use Rattle.law_steps.specs.Reached.{IsThere}
use Rattle.step_activity.specs.declared.act.Given.{Given}
use Rattle.step_activity.specs.Effects.{IsGiven}
use Rattle.replay_population.specs.declared.population.Population.{Population}
use Rattle.replay_population.specs.Population.{IsClosedPopulation, IsGivenIn, with_activity, with_poll}

-- an effect can be handed on: whom it makes has received nothing, whom it sends to is there, and what it
-- fills, with a value of one root, has no value
pub record CanHandOn (c : Configuration) (e : Effect) : Type 0 where
  pub made : (m : Name) (b : model.Activity) → e.made ≡ Some (m, b)
      → (requests_of c m ≡ []) × (log_of c m ≡ [])
  pub sent : (m : Name) (r : RequestShape) → e.sent ≡ Some (m, r) → IsThere c m
  pub filled : (f : FutureShape) (p : ParcelShape) → e.filled ≡ Some (f, p)
      → (find future_cmp f c.futures ≡ None) × (length p.roots ≡ 1)

-- an activity has taken its step from the configuration, and what that gives is still to be handed on
pub record IsGiving (p : Population) (n : Name) (g : Given) (c : Configuration) (e : Effect) : Type 0 where
  pub free : CanHandOn c e
  pub given : IsGiven n e g
  pub here : IsGivenIn p (with_poll n g (with_activity n e.own c)) g

-- some activity has
abbrev pub IsGivingSome : Population → Given → Type 0
IsGivingSome p g = (n : Name) × (c : Configuration) × (e : Effect) × IsGiving p n g c e

-- the one with this number has
abbrev pub IsGivingAs : Population → ℕ → Given → Type 0
IsGivingAs p number g = (n : Name) × (number_of n p.roster ≡ Some number) × (c : Configuration) × (e : Effect)
    × IsGiving p n g c e

-- the one with this number, in a closed configuration, has a step whose effect can be handed on
abbrev pub CanStepNow : Population → ℕ → Type 0
CanStepNow p number = (n : Name) × (number_of n p.roster ≡ Some number) × (c : Configuration) × (e : Effect)
    × IsClosedPopulation p c × (intent_in c n ≡ Acts e) × CanHandOn c e
