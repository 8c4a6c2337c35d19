use Rattle.trace_text.proofs.ReadLemmas.{trace_is_read}
use Rattle.trace_text.proofs.laws.traces_are_read.Goals as goal

pub returns : goal.returns
returns c = record { read = trace_is_read }
