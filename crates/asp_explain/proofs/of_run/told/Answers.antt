use Rattle.std.proofs.Common.{subst, sym}
use Rattle.asp_model.specs.Shapes.{counts_shape, lists_shape, tree_of}
use Rattle.asp_explain.specs.declared.stop.Stop.{Stop}
use Rattle.asp_explain.specs.declared.stop.Which.TheVariants.{First}
use Rattle.asp_explain.specs.Given.{StopsReplay}
use Rattle.asp_explain.specs.Refusals.{refusal_of}
use Rattle.asp_explain.proofs.GivenLemmas.{replay_stops}
use Rattle.asp_explain.proofs.of_run.told.Goals as goal

pub returns-in-Err-clause-stop : goal.returns-in-Err-clause-stop
returns-in-Err-clause-stop c =
    let given = c.args.given.now in
    let tree = tree_of given.program.program.root in
    let lists = lists_shape given.lists in
    let counts = counts_shape given.counts in
    subst (λ (s : Stop). StopsReplay tree lists counts First (refusal_of s)) (sym c.of_replay.ensures) (replay_stops tree lists counts First c.in-Err.stop c.in-Err.ensures.diverged)
