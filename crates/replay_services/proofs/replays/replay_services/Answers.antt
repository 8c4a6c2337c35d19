use Rattle.std.proofs.Common.{◌∙◌, [], ap}
use Rattle.asp_model.specs.Shapes.{counts_shape, lists_shape, outcome_shape, services_shape, tree_of}
use Rattle.replay_services.proofs.ServicesLemmas.{services_of, tells_nothing}
use Rattle.replay_services.proofs.replays.replay_services.Goals as goal

pub returns-clause-outcome : goal.returns-clause-outcome
returns-clause-outcome c = ap outcome_shape c.into_outcome.ensures.outcome ∙ c.in_ok-end.ensures.outcome

pub returns-clause-services : goal.returns-clause-services
returns-clause-services c = services_of (tree_of c.args.program.now.program.root) (lists_shape c.args.lists.now) (counts_shape c.args.counts.now) c.replay_noting.new.notes (services_shape c.in_ok-services.services)
    c.in_ok-end.ensures.fits c.in_ok-services.ensures.ascending c.in_ok-services.ensures.kept
    (c.in_ok-end.ensures.told [] (tells_nothing c.in_ok-listener.listener c.in_ok-listener.ensures.none))
