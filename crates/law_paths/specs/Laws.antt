-- The three laws: deliveries change nothing that is read, agreeing configurations take the same steps, and steps of
-- two activities may be taken in either order.
use Rattle.std.specs.Prelude.{◌≡◌, ◌≢◌, ℕ, Option, Some, None, List}
use Rattle.law_steps.specs.Systems.{Leads}
use Rattle.asp_model.specs.Names.{Name, FutureShape}
use Rattle.asp_model.specs.Configuration.{Configuration}
use Rattle.asp_model.specs.Step.{ListsShape, step}
use Rattle.asp_model.specs.Status.{status_of}
use Rattle.law_steps.specs.Reached.{Move, Edges, Needs, Makes, RunsTo}
use Rattle.law_steps.specs.Commuting.{Commute}
use Rattle.def_paths.specs.Agree.{Agrees}
use Rattle.def_paths.specs.Outcomes.{OutcomesAgree, whole_outcome_of}
use Rattle.law_paths.specs.Whole.{IsWhole}

-- First law: a configuration agrees with what a delivery makes of it
abbrev pub DeliveriesAgree : Type 0
DeliveriesAgree = (c d : Configuration) (f : FutureShape) (to : Name) → IsWhole c
    → (Makes (Edges f to) c d → Agrees d c) × ((place : ℕ) → Makes (Needs f to place) c d → Agrees d c)

-- Second law: where two configurations agree and an activity can step in one, it can take the same step in the
-- other, and the results agree
abbrev pub StepsAgree : Type 0
StepsAgree = (lists : Option ListsShape) (c d c' : Configuration) (n : Name) → IsWhole c → IsWhole d
    → Agrees c d → step lists c n ≡ Some c'
    → (d' : Configuration) × (step lists d n ≡ Some d') × Agrees c' d'

-- Third law: two activities that can each step under the same lists may step in either order, to one end
abbrev pub StepsCommute : Type 0
StepsCommute = (lists : ListsShape) (c d e : Configuration) (n m : Name) → IsWhole c → n ≢ m
    → step (Some lists) c n ≡ Some d → step (Some lists) c m ≡ Some e → Commute (Some lists) n m d e

-- What follows at once

abbrev pub AgreementIsEquivalence : Type 0
AgreementIsEquivalence = ((c : Configuration) → Agrees c c)
    × ((c d : Configuration) → Agrees c d → Agrees d c)
    × ((c d e : Configuration) → Agrees c d → Agrees d e → Agrees c e)

-- configurations that agree have equal statuses, and outcomes that agree
abbrev pub StatusesAgree : Type 0
StatusesAgree = (c d : Configuration) → IsWhole c → IsWhole d → Agrees c d
    → (n : Name) → status_of c n ≡ status_of d n

abbrev pub EndsOfBothAgree : Type 0
EndsOfBothAgree = (c d : Configuration) → IsWhole c → IsWhole d → Agrees c d
    → OutcomesAgree (whole_outcome_of c) (whole_outcome_of d)

-- a run of steps without lists ends in a configuration that agrees with this one
pub record IsFollowed (d c' : Configuration) : Type 0 where
  pub names : List Name
  pub end : Configuration
  pub run : RunsTo None d names end
  pub agrees : Agrees c' end
  pub whole : IsWhole c'
  pub end_whole : IsWhole end

-- whatever moves lead to from one of two configurations that agree, steps alone lead to from the other
abbrev pub MovesAreFollowed : Type 0
MovesAreFollowed = (moves : List Move) (c c' d : Configuration) → IsWhole c → IsWhole d → Agrees c d
    → Leads Makes c moves c' → IsFollowed d c'
