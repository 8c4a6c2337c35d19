-- Configurations that differ in what was served alone.
use Rattle.std.specs.Prelude.{◌≡◌, ℕ, List, [], Option, Some, None, map}
use Rattle.std.specs.FinMap.{find}
use Rattle.asp_model.specs.Names.{Name, FutureShape, name_cmp}
use Rattle.asp_model.specs.Configuration.{RequestShape, Activity, Configuration, requests_of, log_of}
use Rattle.asp_model.specs.Replay.{lists_of, counts_of}
use Rattle.def_journals.specs.Edges.{home_of, homes_in}
use Rattle.def_paths.specs.Outcomes.{whole_outcome_of}
use Rattle.law_steps.specs.Reached.{Move, Makes}
use Rattle.law_steps.specs.Sound.{IsSound}
use Rattle.law_services.specs.Correct.{bare}
use Rattle.law_frozen.specs.Pending.{waiting}

-- the numbers of the requests that were served; none where there is no activity
abbrev pub served_by : Option Activity → List ℕ
served_by None = []
served_by (Some a) = a.served

-- the pending requests of an activity, oldest first
abbrev pub queue_of : Configuration → Name → List RequestShape
queue_of c n = waiting (served_by (find name_cmp n c.activities)) (requests_of c n)

-- an activity without the numbers of what it served
abbrev pub bare_entry : Name × Activity → Name × Activity
bare_entry x = (x.0, bare x.1)

-- equal, but for the requests that were served; each future's request went to the same activity
pub record SamePending (c d : Configuration) : Type 0 where
  pub activities : map bare_entry c.activities ≡ map bare_entry d.activities
  pub pending : (n : Name) → queue_of c n ≡ queue_of d n
  pub logs : (n : Name) → log_of c n ≡ log_of d n
  pub futures : c.futures ≡ d.futures
  pub homes : (f : FutureShape) → home_of f (homes_in c) ≡ home_of f (homes_in d)

-- it is an equivalence
abbrev pub SameIsEquivalence : Type 0
SameIsEquivalence = ((c : Configuration) → SamePending c c)
    × ((c d : Configuration) → SamePending c d → SamePending d c)
    × ((c d e : Configuration) → SamePending c d → SamePending d e → SamePending c e)

-- each step and each delivery of the one can be made in the other, and keeps it
abbrev pub MovesKeepSame : Type 0
MovesKeepSame = (move : Move) (c d e : Configuration) → IsSound c → IsSound d → SamePending c d → Makes move c e
    → (x : Configuration) × Makes move d x × SamePending e x

-- such configurations have the same outcome, with every state, and the same logs and counts
pub record ShowsSame (c d : Configuration) : Type 0 where
  pub outcomes : whole_outcome_of c ≡ whole_outcome_of d
  pub logs : lists_of c ≡ lists_of d
  pub counts : counts_of c ≡ counts_of d

abbrev pub SameShowsSame : Type 0
SameShowsSame = (c d : Configuration) → SamePending c d → ShowsSame c d
