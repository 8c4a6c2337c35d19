use Rattle.std.specs.Arc.{arc_value}
use Rattle.std.proofs.Common.{◌≡◌, rules, ap}
use Rattle.asp_model.specs.Store.{Reference}
use Rattle.checkpoint_makes.proofs.MadeLemmas.{plain_pushed}
use Rattle.checkpoint_makes.proofs.cells.push_reference.Goals as goal

pub returns : goal.returns
returns c =
    let same : arc_value c.in_ok-name.name ≡ c.args.name = search (rules, c.in_ok-name.ensures) in
    record { pushed = λ ns. plain_pushed ns _ _ _ _ c.in_ok-push_bare.ensures.items (λ k. ap Reference same) }
