use Rattle.law_outcomes.proofs.NumberLemmas.{numbers_are_within}
use Rattle.law_outcomes.proofs.outcomes.numbers_are_within.Goals as goal

pub returns : goal.returns
returns c = numbers_are_within
