use Rattle.trace_check.proofs.CheckLemmas as lemmas
use Rattle.trace_check.proofs.laws.ended_are_accepted.Goals as goal

pub returns : goal.returns
returns c = record { accepted = lemmas.ended_are_accepted }
