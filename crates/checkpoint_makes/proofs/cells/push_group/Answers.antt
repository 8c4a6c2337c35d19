use Rattle.std.proofs.Common.{◌∙◌, ap}
use Rattle.asp_model.specs.Store.{Group}
use Rattle.checkpoint_makes.proofs.MadeLemmas.{plain_pushed}
use Rattle.checkpoint_makes.proofs.cells.push_group.Goals as goal

pub returns : goal.returns
returns c = record { pushed = λ ns. plain_pushed ns _ _ _ _ c.in_ok-push_group.ensures.items (λ k. ap Group (c.deref.ensures.value ∙ c.in_ok-members.ensures.same)) }
