-- A run of a program without polls, with what was sent in it.
use Rattle.std.specs.Prelude.{◌≡◌, ℕ, List, None, Some}
use Rattle.asp_model.specs.Names.{Name, Text}
use Rattle.asp_model.specs.Configuration.{Configuration, start}
use Rattle.asp_model.specs.Intent.{Effect, Acts}
use Rattle.asp_model.specs.Step.{intent_in}
use Rattle.asp_model.specs.Term.{Tree}
use Rattle.def_journals.specs.Journals.{number_of}
use Rattle.law_classes.specs.Requests.{NobodyPolled, request_logs}
use Rattle.law_steps.specs.Reached.{RunsTo}
use Rattle.class_search.specs.declared.ends.Sending.{Sending}
use Rattle.replay_population.specs.declared.population.Population.{Population}
use Rattle.replay_population.specs.Reached.{IsReachedPopulation}
use Rattle.replay_classes.specs.declared.walks.Walk.{Walk}
use Rattle.replay_classes.specs.Looks.{Sends}
use Rattle.replay_classes.specs.Sendings.{logs_from}

-- the population stands where the run has led, and the logs by classes are those of what was sent
pub record IsWalk (K : Text → ℕ) (program : Tree) (p : Population) (ss : List Sending) (c : Configuration) : Type 0 where
  pub reached : IsReachedPopulation p program c
  pub names : List Name
  pub run : RunsTo None (start program) names c
  pub unpolled : NobodyPolled c
  pub logs : (q : Name) (κ : ℕ) → logs_from ss q κ ≡ request_logs K c q κ

abbrev pub IsWalkTo : (Text → ℕ) → Tree → Walk → Configuration → Type 0
IsWalkTo K program w c = IsWalk K program w.population w.sendings.items c

-- of some program
abbrev pub IsSomeWalk : (Text → ℕ) → Walk → Type 0
IsSomeWalk K w = (program : Tree) × (c : Configuration) × IsWalkTo K program w c

-- it goes on
abbrev pub GoesOn : (Text → ℕ) → Walk → Walk → Type 0
GoesOn K old new = (program : Tree) (c : Configuration) → IsWalkTo K program old c
    → (d : Configuration) × IsWalkTo K program new d

-- the activity of this number sends next, wherever the walk has led
pub record IsAtSending (K : Text → ℕ) (w : Walk) (number : ℕ) : Type 0 where
  pub who : Name
  pub has : number_of who w.population.roster ≡ Some number
  pub sends : (program : Tree) (c : Configuration) → IsWalkTo K program w c
      → (e : Effect) × (intent_in c who ≡ Acts e) × Sends e

-- a run of this program
abbrev pub IsWalkSomewhere : (Text → ℕ) → Tree → Walk → Type 0
IsWalkSomewhere K program w = (c : Configuration) × IsWalkTo K program w c
