use Rattle.law_traces.proofs.StandingLemmas.{verdicts_are_ends}
use Rattle.law_traces.proofs.standings.verdicts_are_ends.Goals as goal

pub returns : goal.returns
returns c = record { ends = verdicts_are_ends }
