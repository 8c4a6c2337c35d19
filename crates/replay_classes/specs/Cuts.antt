-- What is not next in logs.
use Rattle.std.specs.Prelude.{◌≡◌, Some, length}
use Rattle.asp_model.specs.Configuration.{From}
use Rattle.asp_model.specs.Step.{reception_at}
use Rattle.law_classes.specs.Runs.{ClassLogs}
use Rattle.class_search.specs.declared.ends.Sending.{Sending}

-- behind these logs, what is sent is not next in the lists
abbrev pub IsNotNext : (lists logs : ClassLogs) → Sending → Type 0
IsNotNext lists logs s = reception_at (lists s.to s.class) (length (logs s.to s.class)) ≡ Some (From s.by) → ⊥
