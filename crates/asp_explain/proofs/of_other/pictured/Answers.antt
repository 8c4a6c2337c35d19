use Rattle.std.proofs.Common.{IfErr, subst}
use Rattle.asp_model.specs.Shapes.{counts_shape, lists_shape, tree_of}
use Rattle.asp_explain.specs.OfPicture.{StopsAtPicture}
use Rattle.asp_explain.specs.Refusals.{refusal_of}
use Rattle.asp_explain.specs.Shapes.{page_shape}
use Rattle.asp_explain.specs.Tasks.{PageShape}
use Rattle.asp_explain.proofs.EventLemmas.{not_drawn}
use Rattle.asp_explain.proofs.of_other.pictured.Goals as goal

pub returns-clause-stop : goal.returns-clause-stop
returns-clause-stop c =
    let given = c.args.given.now in
    let tree = tree_of given.program.program.root in
    let lists = lists_shape given.lists in
    let counts = counts_shape given.counts in
    let drawn = c.picture_of-picture.result in
    subst (λ (p : PageShape). IfErr drawn (λ s. StopsAtPicture tree lists counts p (refusal_of s))) c.whole_run-page.ensures
    (not_drawn tree lists counts (page_shape c.whole_run-page.result) c.in_ok-run.run' drawn c.in_ok-run.ensures.seen c.picture_of-picture.ensures.stop)
