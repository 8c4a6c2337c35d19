-- What an answer tells of a text.
use Rattle.std.specs.Prelude.{◌≡◌, ⊤, ℕ, Option, None}
use Rattle.asp_model.specs.declared.outcome.Lists.{Lists}
use Rattle.asp_model.specs.declared.outcome.Counts.{Counts}
use Rattle.asp_model.specs.Shapes.{lists_shape, counts_shape}
use Rattle.asp_model.specs.ReadReport.{Progress, Reading, Reads, BadLine}
use Rattle.sender_log.specs.declared.error.LogError.{LogError}
use Rattle.sender_log.specs.declared.error.LogError.TheVariants as errors

-- the logs and counts are those that the definition reads
abbrev pub Gives : Reading → Lists × Counts → Type 0
Gives r found = r ≡ Reads (lists_shape found.0) (counts_shape found.1)

-- the line is the one that the definition names; want of memory tells nothing
abbrev pub TellsOf : Reading → LogError → Type 0
TellsOf r (errors.BadLine line) = r ≡ BadLine line
TellsOf r errors.Memory = ⊤

-- the same of one line, where the definition finds nothing behind it
abbrev pub IsRefusedAt : ℕ → Option Progress → LogError → Type 0
IsRefusedAt number found (errors.BadLine line) = (line ≡ number) × (found ≡ None)
IsRefusedAt number found errors.Memory = ⊤
