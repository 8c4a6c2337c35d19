use Rattle.asp_model.specs.Shapes.{tree_of}
use Rattle.asp_top.specs.Seen.{outside_between}
use Rattle.outcomes_top.specs.Surveys.{HaltsIn}
use Rattle.outcomes_top.proofs.GivenLemmas.{halts_if}
use Rattle.outcomes_top.proofs.given.end_in.Goals as goal

pub returns-in_err-lists-clause-halt : goal.returns-in_err-lists-clause-halt
returns-in_err-lists-clause-halt g c =
    let o = outside_between g.S.Source.told c.args.source.now c.logs_in.new.source in
    let tree = tree_of c.args.program.now.program.root in
    let halt = c.in_err-lists.field-0.0 in
    halts_if (HaltsIn o 0 tree c.args.name.now) c.from_residual.result halt c.from_residual.ensures.1 (c.in_err-lists.ensures.halt tree)
