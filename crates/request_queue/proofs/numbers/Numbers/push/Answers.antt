use Rattle.std.proofs.Common.{◌∙◌, sym, ap, subst}
use Rattle.request_queue.specs.Numbers.{has_number}
use Rattle.request_queue.proofs.NumberLemmas.{Ascends, ascends_more}
use Rattle.request_queue.proofs.numbers.Numbers.push.Goals as goal

pub invariant_of-self-2 : goal.invariant_of-self-2
invariant_of-self-2 c = subst Ascends (sym c.in_ok-push_back.ensures.items) (ascends_more c.self.inside.numbers.items c.args.number (λ k h. c.requires.above k (ap (has_number k) (sym c.self.view_is) ∙ h)) c.self.invariant)
