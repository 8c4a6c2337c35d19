use Rattle.asp_model.specs.Shapes.{counts_shape, lists_shape, tree_of}
use Rattle.asp_explain.specs.Shapes.{page_shape}
use Rattle.asp_explain.proofs.EventLemmas.{drawn_told, not_drawn}
use Rattle.asp_explain.proofs.of_picture.drawn.Goals as goal

pub returns-clause-told : goal.returns-clause-told
returns-clause-told c =
    let given = c.args.given.now in
    drawn_told (tree_of given.program.program.root) (lists_shape given.lists) (counts_shape given.counts) (page_shape c.args.page) c.in_ok-run.run' c.picture_of-picture.result c.in_ok-run.ensures.seen c.picture_of-picture.ensures.status

pub returns-clause-stop : goal.returns-clause-stop
returns-clause-stop c =
    let given = c.args.given.now in
    not_drawn (tree_of given.program.program.root) (lists_shape given.lists) (counts_shape given.counts) (page_shape c.args.page) c.in_ok-run.run' c.picture_of-picture.result c.in_ok-run.ensures.seen c.picture_of-picture.ensures.stop
