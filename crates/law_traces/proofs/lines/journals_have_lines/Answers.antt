use Rattle.law_traces.proofs.LineLemmas.{journals_have_lines}
use Rattle.law_traces.proofs.lines.journals_have_lines.Goals as goal

pub returns : goal.returns
returns c = record { lines = journals_have_lines }
