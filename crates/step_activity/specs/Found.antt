-- The number of a request that a look has found.
use Rattle.std.specs.Prelude.{◌≡◌, ℕ, List, Option, Some, None}
use Rattle.std.specs.Option.{option_map}
use Rattle.asp_model.specs.Names.{Text}
use Rattle.asp_model.specs.Configuration as model
use Rattle.asp_model.specs.Configuration.{RequestShape}
use Rattle.asp_model.specs.Intent.{oldest_match}
use Rattle.law_steps.specs.Waking.{labels_wanted}
use Rattle.step_activity.specs.declared.actor.Actor.{Actor}
use Rattle.step_activity.specs.Actors.{Stands}

-- the oldest pending request with one of these labels has this number, where one is told
abbrev pub IsFound : List Text → model.Activity → List RequestShape → Option ℕ → Type 0
IsFound wanted a rs None = Unit {0}
IsFound wanted a rs (Some k) = Some k ≡ option_map (λ x. x.0) (oldest_match wanted a.served 0 rs)

-- it has one of the labels that the actor asks for where it stands
abbrev pub IsFoundFor : Actor → Option ℕ → Type 0
IsFoundFor x found = (a : model.Activity) (rs : List RequestShape) → Stands x a rs
    → IsFound (labels_wanted a) a rs found
