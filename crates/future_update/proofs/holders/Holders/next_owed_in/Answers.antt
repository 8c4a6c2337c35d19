use Rattle.std.proofs.Common.{subst}
use Rattle.core_sets.specs.Firsts.{IsFirstFrom}
use Rattle.future_update.specs.Holders.{HoldersView, owed_to_one_in}
use Rattle.future_update.proofs.LanedLemmas.{first_owed}
use Rattle.future_update.proofs.holders.Holders.next_owed_in.Goals as goal

pub returns : goal.returns
returns c = record { first = subst (λ (v : HoldersView). IsFirstFrom (owed_to_one_in v) 0 c.first_open.result) c.self.view_is (first_owed c.self.inside c.self.invariant c.first_open.result c.first_open.ensures.first) }
