-- What is read of a trace and comes of it, and why there is nothing to write: for private functions alone.
use Rattle.std.specs.Prelude.{◌≡◌, ◌+◌, ℕ, List}
use Rattle.asp_model.specs.declared.limits.TheConstants.{MOST_TRACE_BYTES}
use Rattle.asp_model.specs.History.{EntryShape}
use Rattle.asp_model.specs.Term.{Tree}
use Rattle.run_ends.specs.declared.ends.RunEnd.{RunEnd}
use Rattle.trace_text.specs.Traces as Trace
use Rattle.trace_text.specs.Traces.{read_trace}
use Rattle.trace_check.specs.Checks.{IsCheckedEnd, IsUnfinished, IsUnlawfulAt}
use Rattle.asp_top.specs.declared.stop.Stop.{Stop}
use Rattle.asp_top.specs.Seen.{Outside, ReadFails, IsLong}
use Rattle.asp_top.specs.Programs.{IsFile, HasTrace}
use Rattle.asp_top.specs.Refusals.{Refusal, Unread, LongTrace, NoTrace, Unlawful, Unfinished, NoMemory}
use Rattle.asp_top.specs.Stops.{refusal_of}

-- the cause of a stop at the file of a trace, which is asked for at this place
abbrev pub RefusedInTrace : Outside → ℕ → List ℕ → Refusal → Type 0
RefusedInTrace o place trace (Unread name) = (trace ≡ name) × ReadFails o place name
RefusedInTrace o place trace LongTrace = IsLong o place trace MOST_TRACE_BYTES
RefusedInTrace o place trace (NoTrace line) = (bytes : List ℕ)
    × IsFile o place trace MOST_TRACE_BYTES bytes × (read_trace bytes ≡ Trace.BadLine line)
RefusedInTrace o place trace NoMemory = Unit {0}
RefusedInTrace o place trace r = ⊥

abbrev pub StopsInTrace : Outside → List ℕ → Stop → Type 0
StopsInTrace o trace s = RefusedInTrace o 0 trace (refusal_of s)

-- and of one at its run, from this budget
abbrev pub RefusedInRun : Outside → ℕ → List ℕ → Tree → ℕ → Refusal → Type 0
RefusedInRun o place trace program budget (Unlawful entry) = (entries : List EntryShape)
    × HasTrace o place trace entries × (number : ℕ) × (entry ≡ number + 1)
    × IsUnlawfulAt program budget entries number
RefusedInRun o place trace program budget Unfinished = (entries : List EntryShape)
    × HasTrace o place trace entries × IsUnfinished program budget entries
RefusedInRun o place trace program budget r = RefusedInTrace o place trace r

abbrev pub StopsInRun : Outside → List ℕ → Tree → ℕ → Stop → Type 0
StopsInRun o trace program budget s = RefusedInRun o 0 trace program budget (refusal_of s)

-- the end of the run of the trace in the file of this name
pub record IsTracedEnd (o : Outside) (trace : List ℕ) (program : Tree) (budget : ℕ) (e : RunEnd) : Type 0 where
  pub entries : List EntryShape
  pub old : HasTrace o 0 trace entries
  pub checked : IsCheckedEnd program budget entries e
