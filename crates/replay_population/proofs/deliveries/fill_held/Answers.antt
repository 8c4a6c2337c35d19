use Rattle.step_reads.proofs.FetchLemmas.{of_code}
use Rattle.replay_population.proofs.deliveries.fill_held.Goals as goal

pub fill_each-requires-clause-code : goal.fill_each-requires-clause-code
fill_each-requires-clause-code c = of_code _ c.args.futures.now c.in-Some.value.now c.requires.code c.in-Some.ensures.held
