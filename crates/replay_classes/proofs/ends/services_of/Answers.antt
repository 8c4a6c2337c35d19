use Rattle.asp_model.specs.Shapes.{counts_shape, lists_shape, tree_of}
use Rattle.replay_offers.proofs.OfferLemmas.{fits_in_order}
use Rattle.replay_classes.proofs.ends.services_of.Goals as goal

pub replay_services-requires : goal.replay_services-requires
replay_services-requires c = record {
  replayable = record {
    ordered = fits_in_order (tree_of c.args.program.now.program.root) (lists_shape c.args.run.now.lists) (counts_shape c.args.run.now.counts) c.requires.end.0.0;
    within = c.requires.end.1;
  };
}
