-- What was told and written: for private functions alone.
use Rattle.std.specs.Prelude.{ℕ, List}
use Rattle.explain_writing.specs.Writing.{IsToldBy, IsWrittenOr, Sight}
use Rattle.asp_explain.specs.Refusals.{Refusal, message_of, status_of_refusal, write_message}

abbrev pub IsToldOf : Refusal → Sight → ℕ → Type 0
IsToldOf r s result = IsToldBy s (message_of r) (status_of_refusal r) result

-- a text was written, or `out` failed and that was told or could not be told
abbrev pub IsWritten : Sight → Sight → List ℕ → ℕ → ℕ → Type 0
IsWritten out err text status result = IsWrittenOr write_message out err text status result
