-- Logs by classes as data.
use Rattle.std.specs.Prelude.{◌≡◌, ◌&&◌, ◌==◌, ℕ, Bool, true, false, List, [], ◌∷◌, map}
use Rattle.std.specs.List.{starts_with}
use Rattle.asp_model.specs.Names.{Name, same_name}
use Rattle.asp_model.specs.Shapes.{reception_shape}
use Rattle.asp_model.specs.Step.{same_reception}
use Rattle.law_classes.specs.Runs.{ClassLogs}
use Rattle.class_search.specs.declared.logs.ClassLog.{ClassLog}

-- it is the log of this class of this activity
abbrev pub is_log : ClassLog → Name → ℕ → Bool
is_log l q κ = same_name q l.to && (κ == l.class)

-- the first log of a class of an activity; without one it is empty
abbrev pub logs_of : List ClassLog → ClassLogs
logs_of [] q κ = []
logs_of (l ∷ ls) q κ = elim (is_log l q κ) [ true ↦ map reception_shape l.entries.items | false ↦ logs_of ls q κ ]

-- each of these logs begins with the other one
abbrev pub HaveBegun : (logs lists : ClassLogs) → Type 0
HaveBegun logs lists = (q : Name) (κ : ℕ) → starts_with same_reception (lists q κ) (logs q κ) ≡ true
