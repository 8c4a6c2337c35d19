use Rattle.std.proofs.Common.{subst, sym}
use Rattle.asp_model.specs.Term.{Tree}
use Rattle.asp_model.specs.Configuration.{Configuration}
use Rattle.asp_model.specs.Replay.{replay}
use Rattle.asp_model.specs.Shapes.{counts_shape, lists_shape}
use Rattle.replay_offers.proofs.OfferLemmas.{fits_in_order}
use Rattle.replay_population.specs.declared.population.Population.{Population}
use Rattle.replay_population.specs.Reached.{IsReachedPopulation}
use Rattle.replay_offers.specs.Programs.{tree_in}
use Rattle.replay_offers.proofs.replays.Replays.replay.Goals as goal

pub rest-requires : goal.rest-requires
rest-requires c = record {
  ordered = fits_in_order (tree_in c.args.self.now) (lists_shape c.args.run.now.lists) (counts_shape c.args.run.now.counts) c.requires.run.0.0;
  within = c.requires.run.1;
}

pub end-requires : goal.end-requires
end-requires c =
    let t : Tree = (tree_in c.args.self.now) in
    let d : Configuration = replay t (lists_shape c.args.run.now.lists) (counts_shape c.args.run.now.counts) in
    record { reached = (t, d, subst (λ (p : Population). IsReachedPopulation p t d) (sym c.into_population.ensures.population) c.in_ok-machine.ensures.rests) }

pub returns : goal.returns
returns c =
    let t : Tree = (tree_in c.args.self.now) in
    let d : Configuration = replay t (lists_shape c.args.run.now.lists) (counts_shape c.args.run.now.counts) in
    let rests = subst (λ (p : Population). IsReachedPopulation p t d) (sym c.into_population.ensures.population) c.in_ok-machine.ensures.rests in
    record { end = c.end.ensures.end t d rests; outcome = c.end.ensures.outcome t d rests }
