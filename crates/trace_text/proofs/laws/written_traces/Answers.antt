use Rattle.std.proofs.Common.{refl}
use Rattle.std.specs.Fmt.{digits}
use Rattle.trace_text.specs.Traces.{trace_lines}
use Rattle.trace_text.proofs.laws.written_traces.Goals as goal

pub returns : goal.returns
unfolding digits trace_lines
returns c = record { written = record { lines = refl; read = refl; nothing = refl } }
