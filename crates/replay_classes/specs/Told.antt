-- What a search by some classes comes to.
use Rattle.std.specs.Prelude.{ℕ, map}
use Rattle.asp_model.specs.Term.{Tree}
use Rattle.outcome_search.specs.Ends.{run_logs}
use Rattle.outcome_search.specs.Found.{AreFound, IfComplete}
use Rattle.replay_classes.specs.declared.search.Told.{Told}
use Rattle.replay_classes.specs.declared.search.Told.TheVariants as told
use Rattle.replay_classes.specs.Complete.{IsCompleteByClasses}

-- ends, at most so many, which are complete by classes if it is said so; else nothing
abbrev pub IsTold : Tree → ℕ → Told → Type 0
IsTold program most (told.Found f) = AreFound program most (map run_logs f.ends.items)
    × IfComplete (IsCompleteByClasses program (map run_logs f.ends.items)) f.stop
IsTold program most t = Unit {0}
