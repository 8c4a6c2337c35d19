-- The central theorem: whatever steps and deliveries lead to agrees with the one-thread lazy replay of its own
-- logs and counts.
use Rattle.std.specs.Prelude.{◌≡◌, ℕ, true, List, [], Option, Some}
use Rattle.std.specs.List.{starts_with}
use Rattle.asp_model.specs.Names.{Name}
use Rattle.asp_model.specs.Step.{same_reception}
use Rattle.asp_model.specs.Term.{Tree, locations}
use Rattle.asp_model.specs.Configuration.{Configuration}
use Rattle.asp_model.specs.Status.{statuses_of, verdict_of, IsStuck}
use Rattle.asp_model.specs.Replay.{lists_of, counts_of, log_in, AreCompatible, replay, Fits}
use Rattle.asp_model.specs.History.{EntryShape, program_history}
use Rattle.def_journals.specs.Journals.{RunShape, run_of}
use Rattle.law_steps.specs.Reached.{IsReached}
use Rattle.law_steps.specs.Joins.{lists_of_both, counts_of_both, AreNarrow}
use Rattle.def_paths.specs.Agree.{Agrees}
use Rattle.def_paths.specs.Outcomes.{OutcomesAgree, whole_outcome_of, report_lines_to}

-- the lists and counts that c leaves fit, and it agrees with their replay d, in its report too
pub record IsReplayed (program : Tree) (c d : Configuration) : Type 0 where
  pub fits : Fits program (lists_of c) (counts_of c)
  pub agrees : Agrees c d
  pub statuses : statuses_of c ≡ statuses_of d
  pub verdict : verdict_of c ≡ verdict_of d
  pub outcomes : OutcomesAgree (whole_outcome_of c) (whole_outcome_of d)
  pub reports : (depth : Option ℕ)
      → report_lines_to depth (whole_outcome_of c) ≡ report_lines_to depth (whole_outcome_of d)

-- whatever steps and deliveries reach, in whatever order
abbrev pub ReachedAreReplayed : Type 0
ReachedAreReplayed = (program : Tree) (c : Configuration) → locations program ≡ []
    → IsReached program c → IsReplayed program c (replay program (lists_of c) (counts_of c))

-- and so what a lawful journal of leases and deliveries leaves
abbrev pub JournalsAreReplayed : Type 0
JournalsAreReplayed = (program : Tree) (budget : ℕ) (journal : List EntryShape) (s : RunShape)
    → locations program ≡ [] → run_of (program_history program budget journal) ≡ Some s
    → let c : Configuration = s.configuration in
    IsReplayed program c (replay program (lists_of c) (counts_of c))

-- two with compatible lists: the joined lists and counts fit, and one that is stuck has them
abbrev pub ReachedJoin : Type 0
ReachedJoin = (program : Tree) (c d : Configuration) → locations program ≡ []
    → IsReached program c → IsReached program d → AreCompatible (lists_of c) (lists_of d)
    → Fits program (lists_of_both c d) (counts_of_both c d)
    × (IsStuck c → (lists_of c ≡ lists_of_both c d) × (counts_of c ≡ counts_of_both c d))

-- a configuration ends as c does: with its lists and counts, in agreement with it, and with its verdict and reports
pub record EndsAs (c d : Configuration) : Type 0 where
  pub lists : lists_of d ≡ lists_of c
  pub counts : counts_of d ≡ counts_of c
  pub agrees : Agrees d c
  pub verdict : verdict_of d ≡ verdict_of c
  pub reports : (depth : Option ℕ)
      → report_lines_to depth (whole_outcome_of d) ≡ report_lines_to depth (whole_outcome_of c)

-- its logs are beginnings of those of c, and where nothing can step it ends as c does
pub record IsBeside (c d : Configuration) : Type 0 where
  pub lists : (m : Name) → starts_with same_reception (log_in (lists_of c) m) (log_in (lists_of d) m) ≡ true
  pub end : IsStuck d → EndsAs c d

-- so is all that is reached beside a stuck configuration whose logs are narrow
abbrev pub OneSenderIsEnough : Type 0
OneSenderIsEnough = (program : Tree) (c d : Configuration) → locations program ≡ []
    → IsReached program c → IsReached program d → IsStuck c → AreNarrow (lists_of c) → IsBeside c d

-- and so the run of every lawful journal of the program
abbrev pub IsAlone : Tree → Configuration → Type 0
IsAlone program c = (budget : ℕ) (journal : List EntryShape) (s : RunShape)
    → run_of (program_history program budget journal) ≡ Some s → IsBeside c s.configuration

abbrev pub NarrowRunsAreAlone : Type 0
NarrowRunsAreAlone = (program : Tree) (c : Configuration) → locations program ≡ []
    → IsReached program c → IsStuck c → AreNarrow (lists_of c) → IsAlone program c
