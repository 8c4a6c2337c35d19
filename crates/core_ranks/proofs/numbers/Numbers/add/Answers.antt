use Rattle.std.proofs.Common.{true, subst}
use Rattle.core_ranks.specs.Numbers.{Gains}
use Rattle.core_ranks.specs.Marked.{marked_in}
use Rattle.core_ranks.proofs.MarkedLemmas.{switched}
use Rattle.core_ranks.proofs.numbers.Numbers.add.Goals as goal

pub returns : goal.returns
returns c =
    let gains = switched true c.args.number c.self.inside.marks c.reach.new.self c.set.new.self c.self.invariant.tree c.in_ok-reach.ensures.same c.set.ensures.tree c.set.ensures.marked in
    record { gains = subst (λ s. Gains c.args.number s.keys (marked_in c.set.new.self).keys) c.self.view_is gains }
