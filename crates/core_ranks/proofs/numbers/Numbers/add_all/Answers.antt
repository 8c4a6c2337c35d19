use Rattle.std.proofs.Common.{◌∙◌}
use Rattle.core_ranks.proofs.NumberLemmas.{moved_over}
use Rattle.core_ranks.proofs.numbers.Numbers.add_all.Goals as goal

pub loop-number-preserved : goal.loop-number-preserved
loop-number-preserved c = λ k. moved_over k c.in-Some.number c.loop-number.more.items c.pop.new.self.items c.loop-number.self.keys c.add.new.self.keys c.in-Some.ensures.items c.in_ok-add.ensures.gains ∙ c.loop-number.invariant k
