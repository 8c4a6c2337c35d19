use Rattle.std.proofs.Common.{subst, sym}
use Rattle.asp_model.specs.Shapes.{counts_shape, lists_shape, tree_of}
use Rattle.asp_explain.specs.Given.{StopsCut}
use Rattle.asp_explain.proofs.GivenLemmas.{cut_stops}
use Rattle.asp_explain.proofs.of_until.cut.Goals as goal

pub returns-in-Err-clause-stop : goal.returns-in-Err-clause-stop
returns-in-Err-clause-stop c =
    let given = c.args.given.now in
    let tree = tree_of given.program.program.root in
    let lists = lists_shape given.lists in
    let counts = counts_shape given.counts in
    let name = c.args.activity.now in
    subst (StopsCut tree lists counts name c.args.count) (sym c.of_cut.ensures) (cut_stops tree lists counts name c.args.count c.in-Err.stop c.in-Err.ensures.stop)
