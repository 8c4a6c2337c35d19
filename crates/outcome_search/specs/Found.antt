-- What a search has found, and where that is closed.
use Rattle.std.specs.Prelude.{◌≡◌, ◌⊎◌, ◌<◌, ◌≤◌, ℕ, List, [], ◌∷◌, ◌++◌, length}
use Rattle.asp_model.specs.Names.{Name}
use Rattle.asp_model.specs.Term.{Tree}
use Rattle.asp_model.specs.Configuration.{ReceptionShape, Configuration}
use Rattle.asp_model.specs.Step.{ListsShape}
use Rattle.asp_model.specs.Replay.{lists_of, log_in}
use Rattle.law_families.specs.Families.{RunLogs, Has, IsWithin, ComesBehind, IsOffer}
use Rattle.outcome_search.specs.Ends.{AreReplayableEnds}
use Rattle.outcome_search.specs.declared.runs.Stop.{Stop}
use Rattle.outcome_search.specs.declared.runs.Stop.TheVariants as stop

-- both have the same log for each activity
abbrev pub AreSameLogs : (lists others : ListsShape) → Type 0
AreSameLogs lists others = (m : Name) → log_in lists m ≡ log_in others m

-- the same logs are among these
abbrev pub HasLists : List ListsShape → ListsShape → Type 0
HasLists [] l = ⊥
HasLists (k ∷ ks) l = AreSameLogs k l ⊎ HasLists ks l

-- no run is there twice
abbrev pub AreDistinct : List RunLogs → Type 0
AreDistinct [] = Unit {0}
AreDistinct (x ∷ xs) = (Has xs x → ⊥) × AreDistinct xs

-- so many ends of the program at most
pub record AreFound (program : Tree) (most : ℕ) (all : List RunLogs) : Type 0 where
  pub ends : AreReplayableEnds program all
  pub room : length all ≤ most

-- new ends stand behind the old ones, and none of them was there
pub record Grows (old new : List RunLogs) : Type 0 where
  pub more : List RunLogs
  pub is : old ++ more ≡ new
  pub distinct : AreDistinct old → AreDistinct new

-- each of these is within the ends
abbrev pub AreWithin : List RunLogs → List ListsShape → Type 0
AreWithin ends [] = Unit {0}
AreWithin ends (l ∷ ls) = IsWithin ends l × AreWithin ends ls

-- whatever is offered at this place of an activity's log, and comes there behind another entry, is among these logs
abbrev pub HasOffers : Tree → RunLogs → Name → ℕ → List ListsShape → Type 0
HasOffers program x q k ls = (entry : ReceptionShape) (d : Configuration) → ComesBehind (log_in x.0 q) k entry
    → IsOffer program x q k entry d → HasLists ls (lists_of d)

-- so it is at the first places
abbrev pub HasOffersTo : Tree → RunLogs → Name → ℕ → List ListsShape → Type 0
HasOffersTo program x q places ls = (k : ℕ) → k < places → HasOffers program x q k ls

-- whatever is offered in the log of an activity, and comes there behind another entry, is within the ends
abbrev pub IsClosedAt : Tree → List RunLogs → RunLogs → Name → Type 0
IsClosedAt program ends x q = (k : ℕ) (entry : ReceptionShape) (d : Configuration)
    → ComesBehind (log_in x.0 q) k entry → IsOffer program x q k entry d → IsWithin ends (lists_of d)

-- in the logs of all these activities
abbrev pub IsClosedIn : Tree → List RunLogs → RunLogs → ListsShape → Type 0
IsClosedIn program ends x [] = Unit {0}
IsClosedIn program ends x (l ∷ ls) = IsClosedAt program ends x l.0 × IsClosedIn program ends x ls

-- in all logs of these runs
abbrev pub AreClosed : Tree → List RunLogs → List RunLogs → Type 0
AreClosed program ends [] = Unit {0}
AreClosed program ends (x ∷ xs) = IsClosedIn program ends x x.0 × AreClosed program ends xs

-- this holds, unless the search stopped before
abbrev pub IfComplete : Type 0 → Stop → Type 0
IfComplete P stop.Complete = P
IfComplete P stop.Most = Unit {0}
IfComplete P (stop.Unended lists) = Unit {0}

-- this holds, if the search stopped for want of room
abbrev pub IfMost : Type 0 → Stop → Type 0
IfMost P stop.Complete = Unit {0}
IfMost P stop.Most = P
IfMost P (stop.Unended lists) = Unit {0}
