-- A line of one plain word.
use Rattle.std.specs.Prelude.{◌≡◌, ◌==◌, ℕ, false, [], ◌∷◌, Some, None}
use Rattle.clap.specs.Walk.{Text}
use Rattle.command_line.specs.Settings.{usual}
use Rattle.command_line.specs.Task.{Runs, task_of}

-- a word that begins with no hyphen, alone, names a file to run
abbrev pub PlainWordRuns : Type 0
PlainWordRuns = (b : ℕ) (bs : Text) → b == 45 ≡ false →
    task_of ((b ∷ bs) ∷ []) ≡ Some (Runs (b ∷ bs) usual None)
