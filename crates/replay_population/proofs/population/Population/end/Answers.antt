use Rattle.std.proofs.Common.{◌∙◌}
use Rattle.replay_population.proofs.EndLemmas.{named_stand}
use Rattle.replay_population.proofs.population.Population.end.Goals as goal

pub run_end_of-requires : goal.run_end_of-requires
run_end_of-requires c =
    let r = c.requires.reached in
    record { sound = (r.1, named_stand c.args.self c.into_futures.result r.0 r.1 c.in_ok-activities.activities.entries r.2 c.in_ok-activities.ensures.all (c.into_futures.ensures.futures ∙ c.take_all.ensures.futures)) }

pub returns : goal.returns
returns c = record {
  end = λ program k h. c.run_end_of.ensures.end k (named_stand c.args.self c.into_futures.result program k c.in_ok-activities.activities.entries h c.in_ok-activities.ensures.all (c.into_futures.ensures.futures ∙ c.take_all.ensures.futures));
  outcome = λ program k h. c.run_end_of.ensures.outcome k (named_stand c.args.self c.into_futures.result program k c.in_ok-activities.activities.entries h c.in_ok-activities.ensures.all (c.into_futures.ensures.futures ∙ c.take_all.ensures.futures));
}
