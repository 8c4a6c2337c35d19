-- The outcomes that a tally stands for.
use Rattle.std.specs.Prelude.{◌≤◌, ◌<◌, ◌+◌, ℕ, List, [], ◌∷◌, Option, Some, None, map, string_bytes}
use Rattle.std.specs.Borrow.{Bor}
use Rattle.std.specs.declared.alloc.Global.{Global}
use Rattle.std.specs.declared.string.String.{String}
use Rattle.outcomes_text.specs.declared.tally.Share.{Share}
use Rattle.outcomes_text.specs.Outcomes.{Outcome}

abbrev pub outcome_in : String Global × Share → Outcome
outcome_in e = record { text = string_bytes e.0; ends = e.1.ends; first = e.1.first }

abbrev pub outcomes_in : List (String Global × Share) → List Outcome
outcomes_in = map outcome_in

-- one that is lent
abbrev pub outcome_lent : Bor (String Global) × Bor Share → Outcome
outcome_lent e = outcome_in (e.0.now, e.1.now)

-- the share with one end more, which is the first if there was none
abbrev pub share_with : ℕ → Option Share → Share
share_with number None = record { ends = 1; first = number }
share_with number (Some s) = record s { ends = s.ends + 1 }

-- an outcome has no more ends than came before this one
abbrev pub AreFew : ℕ → Option Share → Type 0
AreFew number None = Unit {0}
AreFew number (Some s) = s.ends ≤ number

-- of so many ends: no outcome has more of them, and its first is one of them
abbrev pub AreWithin : ℕ → List Outcome → Type 0
AreWithin n [] = Unit {0}
AreWithin n (o ∷ os) = (o.ends ≤ n) × (o.first < n) × AreWithin n os
