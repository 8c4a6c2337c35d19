use Rattle.std.proofs.Common.{◌∙◌, ap, sym}
use Rattle.core_ranks.specs.Numbers.{has_number}
use Rattle.core_ranks.proofs.MarkedLemmas.{marked_told}
use Rattle.core_ranks.proofs.numbers.Numbers.contains.Goals as goal

pub returns : goal.returns
returns c = record { test = c.is_set.ensures.marked ∙ sym (marked_told c.self.inside.marks c.self.invariant.tree c.args.number) ∙ ap (λ s. has_number c.args.number s.keys) c.self.view_is }
