-- What definitions see of how far a trace has been read.
use Rattle.std.specs.Prelude.{◌≡◌, ℕ, ⊤, Bool, true, false, map, Option, Some, None}
use Rattle.asp_model.specs.Names.{Text}
use Rattle.asp_model.specs.Shapes.{entry_shape}
use Rattle.trace_text.specs.Traces.{Next as NextShape, Title, Entries, Over, Progress as ProgressShape, behind, TraceReading, BadLine}
use Rattle.trace_text.specs.declared.error.TraceError.{TraceError}
use Rattle.trace_text.specs.declared.error.TraceError.TheVariants as errors
use Rattle.trace_text.specs.declared.progress.Next.{Next}
use Rattle.trace_text.specs.declared.progress.Next.TheVariants as next
use Rattle.trace_text.specs.declared.progress.Progress.{Progress}

abbrev pub next_shape : Next → NextShape
next_shape next.Title = Title
next_shape next.Entries = Entries
next_shape next.Over = Over

abbrev pub progress_shape : Progress → ProgressShape
progress_shape p = record { next = next_shape p.next; entries = map entry_shape p.entries.items }

-- what was read with a line, and whether the line fits, are these
abbrev pub Shows : Option ProgressShape → Progress → Bool → Type 0
Shows shape p fits = elim fits [ true ↦ Some (progress_shape p) | false ↦ None ] ≡ shape

-- what stands behind one more line
abbrev pub behind_line : Progress → Text → Option ProgressShape
behind_line p line = behind (next_shape p.next) (progress_shape p) line

-- Answers

-- the line is the one that the definition names; that memory ran out tells nothing
abbrev pub TellsOf : TraceReading → TraceError → Type 0
TellsOf r (errors.BadLine line) = r ≡ BadLine line
TellsOf r errors.Memory = ⊤

-- the same of one line, where the definition finds nothing behind it
abbrev pub IsRefusedAt : ℕ → Option ProgressShape → TraceError → Type 0
IsRefusedAt number found (errors.BadLine line) = (line ≡ number) × (found ≡ None)
IsRefusedAt number found errors.Memory = ⊤
