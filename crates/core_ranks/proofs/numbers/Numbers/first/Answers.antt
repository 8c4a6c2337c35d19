use Rattle.std.proofs.Common.{subst, Some, None}
use Rattle.core_ranks.specs.Numbers.{IsFirst}
use Rattle.core_ranks.proofs.MarkedLemmas.{first_number}
use Rattle.core_ranks.proofs.numbers.Numbers.first.Goals as goal

pub returns-in-Some : goal.returns-in-Some
returns-in-Some c = record { first = subst (λ s. IsFirst s.keys (Some c.in-Some.number)) c.self.view_is (first_number c.self.inside.marks c.self.invariant.tree (Some c.in-Some.number) c.in-Some.ensures.first) }

pub returns-in-None : goal.returns-in-None
returns-in-None c = record { first = subst (λ s. IsFirst s.keys None) c.self.view_is (first_number c.self.inside.marks c.self.invariant.tree None c.in-None.ensures.first) }
