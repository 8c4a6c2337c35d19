use Rattle.std.proofs.Common.{ap}
use Rattle.asp_model.specs.Store.{Future}
use Rattle.checkpoint_makes.proofs.MadeLemmas.{plain_pushed}
use Rattle.checkpoint_makes.proofs.cells.push_future.Goals as goal

pub returns : goal.returns
returns c = record { pushed = λ ns. plain_pushed ns _ _ _ _ c.in_ok-push_bare.ensures.items (λ k. ap Future c.in_ok-future.ensures.future) }
