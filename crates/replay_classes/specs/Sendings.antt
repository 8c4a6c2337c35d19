-- Requests that were sent, and the logs by classes that they leave.
use Rattle.std.specs.Prelude.{◌≡◌, ◌⊎◌, ◌&&◌, ◌==◌, ◌||◌, cond, ℕ, Bool, true, false, List, [], ◌∷◌, Option, Some, map}
use Rattle.asp_model.specs.Names.{Name, Text, same_name}
use Rattle.asp_model.specs.Configuration.{From, ReceptionShape}
use Rattle.asp_model.specs.Services.{ServiceEntryShape}
use Rattle.law_classes.specs.Requests.{arrived_in}
use Rattle.law_classes.specs.Runs.{ClassLogs, Entry}
use Rattle.class_search.specs.declared.ends.Sending.{Sending}
use Rattle.class_search.specs.declared.logs.ClassLog.{ClassLog}
use Rattle.class_search.specs.Logs.{is_log}

-- it was sent to this activity with a label of this class
abbrev pub is_to : Sending → Name → ℕ → Bool
is_to s q κ = same_name q s.to && (κ == s.class)

-- for each class of each activity its senders
abbrev pub logs_from : List Sending → ClassLogs
logs_from [] q κ = []
logs_from (s ∷ ss) q κ = elim (is_to s q κ) [ true ↦ From s.by ∷ logs_from ss q κ | false ↦ logs_from ss q κ ]

-- what it enters
abbrev pub entry_of : Sending → Option Entry
entry_of s = Some (s.to, s.class, From s.by)

-- it is what one of these enters
abbrev pub IsAmong : List Sending → Option Entry → Type 0
IsAmong [] o = ⊥
IsAmong (s ∷ ss) o = (o ≡ entry_of s) ⊎ IsAmong ss o

-- there is a log of this class of this activity
abbrev pub has_log : List ClassLog → Name → ℕ → Bool
has_log [] q κ = false
has_log (l ∷ ls) q κ = is_log l q κ || has_log ls q κ

-- of what came to one activity, its log of a class of this one
abbrev pub entry_logs : (Text → ℕ) → ServiceEntryShape → ClassLogs
entry_logs K e q κ = cond (same_name q e.name) (map (λ x. From x.sender) (arrived_in K κ e.arrivals)) []
