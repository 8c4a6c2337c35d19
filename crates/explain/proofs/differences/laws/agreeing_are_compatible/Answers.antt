use Rattle.explain.proofs.CompatLemmas as laws
use Rattle.explain.proofs.differences.laws.agreeing_are_compatible.Goals as goal

pub returns : goal.returns
returns c = laws.agreeing_are_compatible
