-- What is told of a family of ended runs.
use Rattle.std.specs.Prelude.{◌≡◌, ℕ, Bool, true, false, List, [], ◌∷◌, Option, map, max}
use Rattle.asp_model.specs.Names.{Text}
use Rattle.asp_model.specs.Term.{Tree}
use Rattle.asp_model.specs.Configuration.{Configuration}
use Rattle.asp_model.specs.Outcome.{exit_status, outcome_of}
use Rattle.asp_model.specs.Replay.{replay, total}
use Rattle.def_paths.specs.Outcomes.{whole_outcome_of}
use Rattle.law_families.specs.Families.{Has, IsComplete, IsEndedRun, RunLogs}
use Rattle.outcomes_text.specs.Outcomes.{text_seen}
use Rattle.outcomes_text.specs.Told.{outcomes_text}
use Rattle.replay_classes.specs.Complete.{IsCompleteByClasses}

-- the end of the replay under logs and counts
abbrev pub end_of : Tree → RunLogs → Configuration
end_of program x = replay program x.0 x.1

-- what is seen of each end, at a depth
abbrev pub seen_of : Option ℕ → Tree → List RunLogs → List Text
seen_of depth program ends = map (λ x. text_seen depth (whole_outcome_of (end_of program x))) ends

-- the greatest of a number and others
abbrev pub greatest_from : ℕ → List ℕ → ℕ
greatest_from m [] = m
greatest_from m (x ∷ xs) = greatest_from (max m x) xs

abbrev pub greatest : List ℕ → ℕ
greatest xs = greatest_from 0 xs

-- the most reductions that an end has
abbrev pub longest_of : List RunLogs → ℕ
longest_of ends = greatest (map (λ x. total x.1) ends)

-- 4 where an end is blocked, else 1 where an activity of an end stopped at a fault, else 0
abbrev pub worst_of : Tree → List RunLogs → ℕ
worst_of program ends = greatest (map (λ x. exit_status (outcome_of (end_of program x))) ends)

-- the ends are all that the program has: each of its runs leads to one of them, or, by classes of labels, to one that
-- is alike but for its logs
abbrev pub AreAll : (by_classes : Bool) → Tree → List RunLogs → Type 0
AreAll false program ends = IsComplete program ends
AreAll true program ends = IsCompleteByClasses program ends

-- ended runs of the program, and all there are where it is said so
pub record IsFamily (program : Tree) (by_classes whole : Bool) (ends : List RunLogs) : Type 0 where
  pub ended : (x : RunLogs) → Has ends x → IsEndedRun program x
  pub complete : whole ≡ true → AreAll by_classes program ends

-- the text that tells their outcomes
abbrev pub text_of_family : Option ℕ → Tree → Bool → List RunLogs → List ℕ
text_of_family depth program whole ends = outcomes_text whole (longest_of ends) (seen_of depth program ends)

-- 5 where the search was cut off
abbrev pub status_with : Bool → ℕ → ℕ
status_with true worst = worst
status_with false worst = 5

-- and the status that goes with it
abbrev pub status_of_family : Tree → Bool → List RunLogs → ℕ
status_of_family program whole ends = status_with whole (worst_of program ends)
