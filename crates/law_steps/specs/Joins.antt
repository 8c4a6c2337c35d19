-- Runs with compatible lists join, and one sender in each log, without a poll, is enough.
use Rattle.std.specs.Prelude.{◌≡◌, Bool, true, false, List, [], ◌∷◌, None}
use Rattle.std.specs.List.{starts_with, list_all}
use Rattle.asp_model.specs.Names.{Name}
use Rattle.asp_model.specs.Term.{Tree}
use Rattle.asp_model.specs.Configuration.{ReceptionShape, From, Poll, Configuration, start}
use Rattle.asp_model.specs.Step.{ListsShape, same_reception}
use Rattle.asp_model.specs.Status.{IsStuck}
use Rattle.asp_model.specs.Replay.{CountsShape, lists_of, counts_of, log_in, AreCompatible, joined_lists, joined_counts, Fits}
use Rattle.law_steps.specs.Reached.{RunsTo}

-- two runs of a program without lists, with compatible lists
pub record AreCompatibleRuns (program : Tree) (c d : Configuration) : Type 0 where
  pub names : List Name
  pub others : List Name
  pub run : RunsTo None (start program) names c
  pub other : RunsTo None (start program) others d
  pub compatible : AreCompatible (lists_of c) (lists_of d)

-- the lists and counts that both runs leave, joined
abbrev pub lists_of_both : (c d : Configuration) → ListsShape
lists_of_both c d = joined_lists (lists_of c) (lists_of d)

abbrev pub counts_of_both : (c d : Configuration) → CountsShape
counts_of_both c d = joined_counts (counts_of c) (counts_of d)

-- the joined lists and counts fit
abbrev pub JoinedFits : Type 0
JoinedFits = (program : Tree) (c d : Configuration) → AreCompatibleRuns program c d
    → Fits program (lists_of_both c d) (counts_of_both c d)

-- where the one is stuck, its lists and counts are the joined ones
abbrev pub StuckIsJoined : Type 0
StuckIsJoined = (program : Tree) (c d : Configuration) → AreCompatibleRuns program c d → IsStuck c
    → (lists_of c ≡ lists_of_both c d) × (counts_of c ≡ counts_of_both c d)

-- two stuck runs with compatible lists end in one configuration
abbrev pub StuckRunsAgree : Type 0
StuckRunsAgree = (program : Tree) (c d : Configuration)
    → AreCompatibleRuns program c d → IsStuck c → IsStuck d → c ≡ d

-- one sender at most, and no poll
abbrev pub is_narrow : List ReceptionShape → Bool
is_narrow [] = true
is_narrow (Poll ∷ xs) = false
is_narrow (From n ∷ xs) = list_all (same_reception (From n)) xs

-- each log is so
abbrev pub AreNarrow : ListsShape → Type 0
AreNarrow lists = (m : Name) → is_narrow (log_in lists m) ≡ true

-- a stuck run without lists, in which each log is narrow
pub record IsOneSenderEnd (program : Tree) (c : Configuration) : Type 0 where
  pub names : List Name
  pub run : RunsTo None (start program) names c
  pub stuck : IsStuck c
  pub one : AreNarrow (lists_of c)

-- then the lists of each other run are beginnings of its lists
abbrev pub OneSenderBounds : Type 0
OneSenderBounds = (program : Tree) (c d : Configuration) (others : List Name)
    → IsOneSenderEnd program c → RunsTo None (start program) others d → (m : Name)
    → starts_with same_reception (log_in (lists_of c) m) (log_in (lists_of d) m) ≡ true

-- and each other run that is stuck ends as it does
abbrev pub OneSenderEnds : Type 0
OneSenderEnds = (program : Tree) (c d : Configuration) (others : List Name)
    → IsOneSenderEnd program c → RunsTo None (start program) others d → IsStuck d → d ≡ c
