-- Ends by classes that were found, and what they offer.
use Rattle.std.specs.Prelude.{◌⊎◌, ◌<◌, ◌≤◌, ℕ, List, [], ◌∷◌, Some, length, map}
use Rattle.asp_model.specs.Names.{Name, Text}
use Rattle.asp_model.specs.Term.{Tree}
use Rattle.asp_model.specs.Configuration.{ReceptionShape}
use Rattle.asp_model.specs.Replay.{replay}
use Rattle.law_families.specs.Families.{ComesBehind}
use Rattle.law_classes.specs.Runs.{ClassLogs, with_entry}
use Rattle.law_classes.specs.Families.{ClassEnd, IsInside, IsClassEnd, IsFull, IsOffered, IsComplete, cut_logs}
use Rattle.outcome_search.specs.Ends.{IsReplayableEnd, run_logs}
use Rattle.end_search.specs.Found.{AreAll, AreClosed}
use Rattle.class_search.specs.declared.ends.FoundEnd.{FoundEnd}
use Rattle.class_search.specs.declared.ends.Offer.{Offer}
use Rattle.class_search.specs.declared.logs.ClassLog.{ClassLog}
use Rattle.class_search.specs.Logs.{logs_of}

-- the configuration with which its run ends, and its logs by classes
abbrev pub end_in : Tree → FoundEnd → ClassEnd
end_in program e = (replay program (run_logs e.run).0 (run_logs e.run).1, logs_of e.logs.items)

-- it can be replayed, and is an end by classes
abbrev pub IsFoundEnd : (Text → ℕ) → Tree → FoundEnd → Type 0
IsFoundEnd K program e = IsReplayableEnd program (run_logs e.run) × IsClassEnd K program (end_in program e)

-- the logs of an end begin as they are offered
abbrev pub Begins : FoundEnd → Offer → Type 0
Begins e o = IsInside (logs_of o.logs.items) (logs_of e.logs.items)

-- one of the offers begins with these logs
abbrev pub HasLogs : List Offer → ClassLogs → Type 0
HasLogs [] logs = ⊥
HasLogs (o ∷ os) logs = IsInside logs (logs_of o.logs.items) ⊎ HasLogs os logs

-- an end that is cut at this place of a log goes so far, and what is offered there is among these
abbrev pub HasOffers : (Text → ℕ) → Tree → ClassEnd → Name → ℕ → ℕ → List Offer → Type 0
HasOffers K program x q κ k os = (entry : ReceptionShape) → ComesBehind (x.1 q κ) k entry
    → (f : ClassEnd) × IsFull K program (cut_logs x.1 q κ k) f
    × (IsOffered K f.0 q κ entry → HasLogs os (with_entry (Some (q, κ, entry)) f.1))

-- so it is at the first places of this log
abbrev pub HasOffersTo : (Text → ℕ) → Tree → ClassEnd → ℕ → List Offer → ClassLog → Type 0
HasOffersTo K program x places os l = (k : ℕ) → k < places → HasOffers K program x l.to l.class k os

-- at all of them
abbrev pub HasOffersIn : (Text → ℕ) → Tree → ClassEnd → List Offer → ClassLog → Type 0
HasOffersIn K program x os l = HasOffersTo K program x (length l.entries.items) os l

-- so it is at each place of each log
abbrev pub HasAllOffers : (Text → ℕ) → Tree → FoundEnd → List Offer → Type 0
HasAllOffers K program e os = (q : Name) (κ k : ℕ) → HasOffers K program (end_in program e) q κ k os

-- if all that ends offer leads to one of them, they are complete
abbrev pub ClosedIsComplete : Type 0
ClosedIsComplete = (K : Text → ℕ) (program : Tree) (ends : List FoundEnd)
    → 1 ≤ length ends → AreAll (IsFoundEnd K program) ends
    → AreClosed Begins (HasAllOffers K program) ends ends → IsComplete K program (map (end_in program) ends)
