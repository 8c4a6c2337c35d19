use Rattle.std.proofs.Common.{◌∙◌}
use Rattle.core_ranks.proofs.MarkedLemmas.{marked_told}
use Rattle.core_ranks.proofs.numbers.Numbers.new.Goals as goal

pub returns : goal.returns
returns c = record { none = λ k. marked_told c.new.result c.new.ensures.tree k ∙ c.new.ensures.none k }
