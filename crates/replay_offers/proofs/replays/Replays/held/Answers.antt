use Rattle.std.proofs.Common.{subst, sym}
use Rattle.asp_model.specs.Term.{Tree}
use Rattle.asp_model.specs.Configuration.{Configuration}
use Rattle.asp_model.specs.Replay.{replay}
use Rattle.asp_model.specs.Shapes.{counts_shape, lists_shape}
use Rattle.replay_population.specs.declared.population.Population.{Population}
use Rattle.replay_population.specs.Reached.{IsReachedPopulation}
use Rattle.replay_offers.specs.Programs.{tree_in}
use Rattle.replay_offers.proofs.replays.Replays.held.Goals as goal

pub held_in-requires : goal.held_in-requires
held_in-requires c =
    let t : Tree = tree_in c.args.self.now in
    let d : Configuration = replay t (lists_shape c.args.lists.now) (counts_shape c.args.counts.now) in
    record { reached = (t, d, subst (λ (p : Population). IsReachedPopulation p t d) (sym c.into_population.ensures.population) c.in_ok-machine.ensures.rests) }

pub returns : goal.returns
returns c =
    let t : Tree = tree_in c.args.self.now in
    let d : Configuration = replay t (lists_shape c.args.lists.now) (counts_shape c.args.counts.now) in
    record { held = c.held_in.ensures.held t d (subst (λ (p : Population). IsReachedPopulation p t d) (sym c.into_population.ensures.population) c.in_ok-machine.ensures.rests) }
