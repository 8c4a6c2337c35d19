-- Activities and futures of a configuration in which a run may go on.
use Rattle.std.specs.Prelude.{◌≡◌, ◌+◌, ◌<◌, ◌^◌, ℕ, List, [], Some, map}
use Rattle.std.specs.Global.{Box}
use Rattle.std.specs.List.{AllByRecursion}
use Rattle.asp_model.specs.Configuration as model
use Rattle.asp_model.specs.Configuration.{Configuration, log_of, requests_of}
use Rattle.asp_model.specs.History.{FirstShape, HistoryShape}
use Rattle.asp_model.specs.Names.{Name}
use Rattle.asp_model.specs.Term.{Tree}
use Rattle.asp_model.specs.declared.name.FutureName.{FutureName}
use Rattle.law_steps.specs.Reached.{IsAt}
use Rattle.law_journals.specs.Budgets.{spent_in}
use Rattle.law_journals.specs.Numbered.{IsFirst}
use Rattle.law_paths.specs.Whole.{IsWhole}
use Rattle.code_table.specs.declared.cells.Parcel.{Parcel}
use Rattle.code_table.specs.declared.code.Node.{Node}
use Rattle.future_table.specs.Values.{AreOfCode, values_of}
use Rattle.step_activity.specs.declared.actor.Actor.{Actor}
use Rattle.step_activity.specs.Actors.{Stands, code_of, log_in}

-- it runs this code, and stands for the activity of that name in the configuration, with its log
pub record IsThawed (code : List Node) (c : Configuration) (n : Name) (x : Actor) : Type 0 where
  pub activity : model.Activity
  pub there : IsAt c n activity
  pub stands : Stands x activity (requests_of c n)
  pub logged : log_in x ≡ log_of c n
  pub coded : code_of x ≡ code

abbrev pub AreThawed : List Node → Configuration → List (Name × Box Actor) → Type 0
AreThawed code c = AllByRecursion (λ e. IsThawed code c e.0 e.1.value)

-- a run may go on from this configuration with this budget, and these are its activities, in the order of creation,
-- and the values of its futures
pub record MayGoOn (code : List Node) (x : FirstShape) (budget : ℕ) (activities : List (Name × Box Actor))
    (filled : List (FutureName × Parcel)) : Type 0 where
  pub first : IsFirst x
  pub whole : IsWhole x.configuration
  pub small : spent_in x.configuration + budget < 2 ^ 64
  pub names : map (λ e. e.0) activities ≡ x.names
  pub stand : AreThawed code x.configuration activities
  pub futures : values_of filled ≡ x.configuration.futures
  pub values : AreOfCode code filled

abbrev pub MayGoOnSomehow : ℕ → List (Name × Box Actor) → List (FutureName × Parcel) → Type 0
MayGoOnSomehow budget activities filled = (code : List Node) × (x : FirstShape)
    × MayGoOn code x budget activities filled

-- the history of a run that goes on, before its entries
abbrev pub resumed_history : Tree → FirstShape → ℕ → HistoryShape
resumed_history program x budget = record { program = program; first = Some x; budget = budget; entries = [] }
