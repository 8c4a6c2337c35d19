use Rattle.std.proofs.Common.{◌∙◌, sym, ap}
use Rattle.core_ranks.specs.Numbers.{has_number}
use Rattle.core_ranks.proofs.RankLemmas.{none_awaits}
use Rattle.core_ranks.proofs.ranks.Ranks.someone_awaits.Goals as goal

pub returns-in-None-someone : goal.returns-in-None-someone
returns-in-None-someone c = record { told = λ k x r. none_awaits x (sym r.circling ∙ c.in-None.ensures.first k) (λ f. sym (r.waiting f) ∙ ap (has_number k) (c.in-None-someone.ensures.waiter f)) }
