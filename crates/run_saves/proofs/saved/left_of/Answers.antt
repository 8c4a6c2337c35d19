use Rattle.std.proofs.Common.{◌∙◌, sym}
use Rattle.asp_model.specs.Shapes.{marked_of}
use Rattle.run_saves.proofs.SavedLemmas.{end_is, stopped_is}
use Rattle.run_saves.proofs.saved.left_of.Goals as goal

pub returns-then-is_stopped : goal.returns-then-is_stopped
returns-then-is_stopped g c =
    let over = c.requires.over in
    record {
      left = stopped_is c.args.core over (marked_of c.args.program.now.program.root) c.in_ok-pieces.pieces.items
          (sym (c.is_stopped.ensures.stopped over.run over.is) ∙ c.if-is_stopped.true)
          (c.in_ok-pieces.ensures.text over.run over.is);
    }

pub returns : goal.returns
returns g c =
    let over = c.requires.over in
    record {
      left = end_is c.args.core over c.in_ok-end.end (c.in_ok-end.ensures.end over.run over.is)
          (c.in_ok-end.ensures.outcome over.run over.is)
          (sym (c.is_stopped.ensures.stopped over.run over.is) ∙ c.if-is_stopped.false);
    }
