use Rattle.std.proofs.Common.{◌∙◌, ◌++◌, ◌∷◌, [], List, ap}
use Rattle.std.specs.Prelude.{codes}
use Rattle.std.specs.declared.alloc.Global.{Global}
use Rattle.std.specs.declared.string.String.{String}
use Rattle.asp_model.specs.Report.{text_of}
use Rattle.asp_model.specs.Shapes.{marked_of}
use Rattle.checkpoint_runs.specs.Saved.{lines_but_end, program_text, text_in}
use Rattle.checkpoint_runs.proofs.LineLemmas.{lines_onward}
use Rattle.checkpoint_runs.proofs.checkpoints.write_checkpoint.Goals as goal

pub returns : goal.returns
returns c = record {
  text = λ x h.
      let lines = lines_but_end (program_text (marked_of c.args.program.now.root)) x in
      let old = c.new-pieces.result.items in
      let all = lines_onward old lines (codes "end" ∷ []) c.put_frozen.new.pieces.items c.put_text.new.pieces.items (c.in_ok-put_frozen.ensures.adds x h) c.in_ok-put_text.ensures.adds in
      all ∙ ap (λ (xs : List (String Global)). text_in xs ++ text_of (lines ++ codes "end" ∷ [])) c.new-pieces.ensures.items;
}
