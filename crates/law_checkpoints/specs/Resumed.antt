-- A run that went on from where it was saved tells what one run of its program tells.
use Rattle.std.specs.Prelude.{◌≡◌, ℕ, ◌+◌, ◌≤◌, true, [], List, Option, Some}
use Rattle.std.specs.List.{starts_with}
use Rattle.asp_model.specs.Names.{Name}
use Rattle.asp_model.specs.Term.{Tree, locations}
use Rattle.asp_model.specs.Configuration.{Configuration, log_of}
use Rattle.asp_model.specs.History.{EntryShape, FirstShape}
use Rattle.asp_model.specs.Step.{same_reception}
use Rattle.asp_model.specs.Replay.{lists_of, counts_of, count_in, replay, Fits}
use Rattle.def_journals.specs.Journals.{RunShape, all_entered, run_from}
use Rattle.def_paths.specs.Outcomes.{OutcomesAgree, whole_outcome_of, report_lines_to}
use Rattle.law_journals.specs.Budgets.{granted_in, spent_in}
use Rattle.law_frozen.specs.Frozen.{thawed_first}
use Rattle.law_checkpoints.specs.Saved.{IsSavedAt, frozen_at}

-- the replay of the program under the logs and counts that a configuration leaves
abbrev pub replayed : Tree → Configuration → Configuration
replayed program d = replay program (lists_of d) (counts_of d)

-- these logs and counts fit, and the outcome is that of their replay, in its report too
pub record TellsReplay (program : Tree) (d : Configuration) : Type 0 where
  pub fits : Fits program (lists_of d) (counts_of d)
  pub outcomes : OutcomesAgree (whole_outcome_of d) (whole_outcome_of (replayed program d))
  pub reports : (depth : Option ℕ)
      → report_lines_to depth (whole_outcome_of d) ≡ report_lines_to depth (whole_outcome_of (replayed program d))

-- what a run adds to where it went on
pub record AddsTo (c d : Configuration) : Type 0 where
  -- each log begins with what it was
  pub logs : (m : Name) → starts_with same_reception (log_of d m) (log_of c m) ≡ true
  -- and no count is lower
  pub counts : (m : Name) → count_in (counts_of c) m ≤ count_in (counts_of d) m

-- both runs are one run of the program: so the report says
pub record AreOneRun (program : Tree) (x : FirstShape) (budget : ℕ) (t : RunShape) : Type 0 where
  pub tells : TellsReplay program t.configuration
  pub adds : AddsTo x.configuration t.configuration
  -- the counts, what is left and what is granted sum to what was counted and the budget
  pub spends : spent_in t.configuration + (t.left + granted_in t.out) ≡ spent_in x.configuration + budget

abbrev pub ResumedAreOneRun : Type 0
ResumedAreOneRun = (program : Tree) (x : FirstShape) (budget : ℕ) (entries : List EntryShape) (t : RunShape)
    → locations program ≡ [] → IsSavedAt program x
    → all_entered entries (run_from (thawed_first (frozen_at x)) budget) ≡ Some t
    → AreOneRun program x budget t
